-- Which links every cheapest tree has. Close some links, and compare the total of the first row that is
-- left with that of the first row of all: if it is no higher, some cheapest tree does without them. A
-- link is in every cheapest tree if none does without it.
use Rattle.std.proofs.Common.{◌≡◌, ℕ, ◌+◌, Bool, false, not, eqb, List, map, length, refl, subst, inl, inr}
use Rattle.std.proofs.lemmas.Bool.{and_from, and_parts, not-true, not_from_false, eq-eqb, ne_eqb, both_ways}
use Rattle.forests.specs.Lists.{In}
use Rattle.forests.specs.Graphs.{Graph, Fits, SpanningTree}
use Rattle.forests.proofs.Members.{in_or_not}
use Rattle.weights.specs.Scales.{Scale, Lawful, sum_of}
use Rattle.cheapest.specs.Trees.{Cheapest}
use Rattle.cheapest.specs.Completions.{first}
use Rattle.cheapest.specs.Classes.{closing, Avoidable, Reaches, AvoidableStands, InEveryStands}
use Rattle.cheapest.proofs.TreeRows.{first_size}
use Rattle.cheapest.proofs.Totals.{first_cheapest, cheapest_by_total, cheapest_low}

module _ (g : Graph) (fits : Fits g) (s : Scale) (laws : Lawful s) (w : ℕ → s.Amount) (closed : ℕ → Bool) where
  closing_fits : Fits (closing g closed)
  closing_fits = record { from_fits = fits.from_fits; to_fits = fits.to_fits }

  closed_tree : (S : List ℕ) → SpanningTree g S → ((e : ℕ) → In e S → closed e ≡ false) → SpanningTree (closing g closed) S
  closed_tree S t h = record {
    size = t.size;
    different = t.different;
    allowed = λ e m. ((t.allowed e m).0, and_from (g.usable e) (not (closed e)) (t.allowed e m).1 (not_from_false (closed e) (h e m)));
    joins = t.joins;
  }

  open_tree : (S : List ℕ) → SpanningTree (closing g closed) S → SpanningTree g S
  open_tree S t = record {
    size = t.size;
    different = t.different;
    allowed = λ e m. ((t.allowed e m).0, (and_parts (g.usable e) (not (closed e)) (t.allowed e m).1).0);
    joins = t.joins;
  }

  pub avoidable_reaches : Avoidable g s w closed → (length (first (closing g closed) s w) + 1 ≡ g.sites) × Reaches g s w (first (closing g closed) s w)
  avoidable_reaches some =
      let g' = closing g closed in
      let r = some.0 in
      let c = some.1 in
      let t = closed_tree r c.row.tree some.2 in
      let size = first_size g' s laws w closing_fits r t in (
        size,
        (
          first_size g s laws w fits r c.row.tree,
          laws.trans (sum_of s (map w (first g' s w))) (sum_of s (map w r)) (sum_of s (map w (first g s w)))
              ((first_cheapest g' closing_fits s laws w size).least r t) (cheapest_low g fits s laws w r c),
        ),
      )

  -- the first row without them is then a cheapest tree's
  pub closed_first : (length (first (closing g closed) s w) + 1 ≡ g.sites) × Reaches g s w (first (closing g closed) s w) → Cheapest g s w (first (closing g closed) s w)
  closed_first h =
      let r = first (closing g closed) s w in
      let c = first_cheapest (closing g closed) closing_fits s laws w h.0 in
      cheapest_by_total g fits s laws w r (record { tree = open_tree r c.row.tree; rises = c.row.rises }) h.1.1

  pub reaches_avoidable : (length (first (closing g closed) s w) + 1 ≡ g.sites) × Reaches g s w (first (closing g closed) s w) → Avoidable g s w closed
  reaches_avoidable h =
      let r = first (closing g closed) s w in
      let c = first_cheapest (closing g closed) closing_fits s laws w h.0 in (
        r,
        closed_first h,
        λ e m. not-true (closed e) (and_parts (g.usable e) (not (closed e)) (c.row.tree.allowed e m).1).1,
      )

module _ (s : Scale) (laws : Lawful s) where
  pub avoidable_stands : AvoidableStands s
  avoidable_stands g fits w closed = (avoidable_reaches g fits s laws w closed, reaches_avoidable g fits s laws w closed)

  pub in_every_stands : InEveryStands s
  in_every_stands g w e = (
    (λ every some. both_ways (eqb e e) (some.2 e (every some.0 some.1)) (eq-eqb e e refl)),
    (λ none r c. elim (in_or_not e r) [
      | inl m ↦ m
      | inr n ↦ absurd (none (r, c, λ x m. ne_eqb x e (λ k. n (subst (λ z. In z r) k m))))
    ]),
  )
