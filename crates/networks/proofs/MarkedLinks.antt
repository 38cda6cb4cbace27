-- The links of a plan, made from the records of a network link by link.
use Rattle.std.proofs.Common.{◌≡◌, ℕ, ◌<◌, ◌≤◌, Bool, not, ltb, List, map, length, get_or, sym, ap, ◌∙◌, ⊎_elim, arith}
use Rattle.std.specs.List.{count_by}
use Rattle.std.proofs.lemmas.List.{length-map, get_or_past}
use Rattle.std.proofs.lemmas.Bool.{cases_lt, le-ltb, and_left}
use Rattle.weights.specs.Scales.{Weighing}
use Rattle.cheapest.specs.Places.{no_link, link_at}
use Rattle.cheapest.specs.declared.plan.PlanLink.{PlanLink}
use Rattle.networks.specs.Closures.{closed_at}
use Rattle.networks.specs.Links.{from_of, to_of, weight_of, lighter_than, open_below}
use Rattle.networks.specs.declared.closed.Closed.{Closed}
use Rattle.networks.specs.declared.links.Link.{Link}
use Rattle.networks.proofs.CountedLists.{counted_places}
use Rattle.networks.proofs.Filled.{FilledTo, filled_here, filled_past}
use Rattle.networks.proofs.Weights.{weight_at}

pub same_link : {from from' to to' mark mark' : ℕ} {usable usable' : Bool} → from ≡ from' → to ≡ to' → mark ≡ mark' → usable ≡ usable'
    → ◌≡◌ {A = PlanLink} (record { from = from; to = to; mark = mark; usable = usable }) (record { from = from'; to = to'; mark = mark'; usable = usable' })
same_link a b c d = λ i. record { from = a i; to = b i; mark = c i; usable = d i }

module _ {W : Type 0} (kind : Weighing W) (links : List (Link W)) where
  -- how many links are lighter than one that was read
  pub lighter : (link : Link W) (e : ℕ) → link ≡ get_or links e link → e < length links
      → count_by (λ (x : Link W). not (kind.scale.le (kind.amount link.weight) (kind.amount x.weight))) links ≡ lighter_than kind.scale (weight_of kind links) (length links) e
  lighter link e is l =
      let w = weight_of kind links in
      counted_places (λ (x : Link W). not (kind.scale.le (kind.amount link.weight) (kind.amount x.weight))) (λ x. not (kind.scale.le (w e) (w x))) link links
      (λ x k. ap (λ a. not (kind.scale.le a (w x))) (weight_at kind links e link l ∙ ap (λ (y : Link W). kind.amount y.weight) (sym is))
      ∙ ap (λ a. not (kind.scale.le (kind.amount link.weight) a)) (weight_at kind links x link k))

module _ {W : Type 0} (kind : Weighing W) (links : List (Link W)) (closed : Closed) where
  -- link e with its mark
  abbrev pub marked : ℕ → PlanLink
  marked e = record {
    from = from_of links e;
    to = to_of links e;
    mark = lighter_than kind.scale (weight_of kind links) (length links) e;
    usable = open_below closed (length links) e;
  }

  -- every link has its place
  module _ (places : List PlanLink) {i : ℕ} (all : FilledTo no_link marked places i) (ends : i ≡ length links) where
    within : (e : ℕ) → e < length links → link_at places e ≡ marked e
    within e l = filled_here no_link marked places i e all (omega arith)

    past : (e : ℕ) → length links ≤ e → link_at places e ≡ no_link
    past e l = filled_past no_link marked places i e all (omega arith)

    pub marked_from : (e : ℕ) → (link_at places e).from ≡ from_of links e
    marked_from e =
        ⊎_elim
        (λ l. ap (λ (x : PlanLink). x.from) (within e l))
        (λ m. ap (λ (x : PlanLink). x.from) (past e m) ∙ sym (get_or_past (map (λ (x : Link W). x.from) links) e 0 (omega (arith, length-map links (λ (x : Link W). x.from)))))
        (cases_lt e (length links))

    pub marked_to : (e : ℕ) → (link_at places e).to ≡ to_of links e
    marked_to e =
        ⊎_elim
        (λ l. ap (λ (x : PlanLink). x.to) (within e l))
        (λ m. ap (λ (x : PlanLink). x.to) (past e m) ∙ sym (get_or_past (map (λ (x : Link W). x.to) links) e 0 (omega (arith, length-map links (λ (x : Link W). x.to)))))
        (cases_lt e (length links))

    pub marked_mark : (e : ℕ) → e < length links → (link_at places e).mark ≡ lighter_than kind.scale (weight_of kind links) (length links) e
    marked_mark e l = ap (λ (x : PlanLink). x.mark) (within e l)

    pub marked_usable : (e : ℕ) → (link_at places e).usable ≡ open_below closed (length links) e
    marked_usable e =
        ⊎_elim
        (λ l. ap (λ (x : PlanLink). x.usable) (within e l))
        (λ m. ap (λ (x : PlanLink). x.usable) (past e m) ∙ sym (and_left (ltb e (length links)) (not (closed_at closed e)) (le-ltb e (length links) m)))
        (cases_lt e (length links))
