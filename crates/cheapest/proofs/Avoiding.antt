-- Links that every cheapest tree has. Some cheapest tree avoids a link if and only if the first row
-- without it is a spanning tree's and has the first row's amounts at every position, or, which tells it too,
-- the first row's total.
use Rattle.std.proofs.Common.{◌≡◌, ℕ, ◌+◌, Bool, not, eqb, map, length, Decides, sym, ap, ◌∙◌, inl, inr, arith}
use Rattle.std.proofs.lemmas.List.{length-map}
use Rattle.std.proofs.lemmas.Bool.{cases_Bool, both_ways, not-true, not_from_false, eq-eqb, eqb-true}
use Rattle.weights.specs.Scales.{Scale, Lawful, sum_of}
use Rattle.weights.specs.Amounts.{numbers}
use Rattle.forests.specs.Graphs.{Graph, Fits}
use Rattle.cheapest.specs.Classes.{closing, Avoidable, InEvery}
use Rattle.cheapest.specs.Completions.{first}
use Rattle.cheapest.specs.Plans.{graph_of, mark_of, first_of}
use Rattle.cheapest.specs.declared.plan.Plan.{Plan}
use Rattle.cheapest.proofs.Amounts.{le_refl}
use Rattle.cheapest.proofs.Closings.{avoidable_reaches, closed_first, reaches_avoidable, in_every_stands}
use Rattle.cheapest.specs.Positions.{HasTree}
use Rattle.cheapest.proofs.Joining.{tree_size, size_tree}
use Rattle.cheapest.proofs.Theorems.{position}
use Rattle.cheapest.proofs.Numbers.{numbers_lawful}
use Rattle.cheapest.proofs.Listed.{plan_fits}

module _ (g : Graph) (fits : Fits g) (s : Scale) (laws : Lawful s) (w : ℕ → s.Amount) (closed : ℕ → Bool) where
  pub avoidable_marks : Avoidable g s w closed
      → (length (first g s w) + 1 ≡ g.sites) × (length (first (closing g closed) s w) + 1 ≡ g.sites) × (map w (first (closing g closed) s w) ≡ map w (first g s w))
  avoidable_marks some =
      let h = avoidable_reaches g fits s laws w closed some in
      let c = closed_first g fits s laws w closed h in
      (h.1.0, h.0, (position s laws g fits w (first (closing g closed) s w) c.row).0 c)

  pub marks_avoidable : length (first g s w) + 1 ≡ g.sites → length (first (closing g closed) s w) + 1 ≡ g.sites
      → map w (first (closing g closed) s w) ≡ map w (first g s w) → Avoidable g s w closed
  marks_avoidable size other same =
      reaches_avoidable g fits s laws w closed
      (other, (size, le_refl s laws (sum_of s (map w (first (closing g closed) s w))) (sum_of s (map w (first g s w))) (ap (sum_of s) same)))

-- Where there is no tree, every cheapest tree has any link.
pub every_apart : (p : Plan) (link : ℕ) → (HasTree p → ⊥) → InEvery (graph_of p) numbers (mark_of p) link
every_apart p link no_tree = (in_every_stands numbers numbers_lawful (graph_of p) (mark_of p) link).1 (λ some. no_tree (some.0, some.1.row.tree))

-- The first rows with and without a link.
module _ (p : Plan) (link : ℕ) (q : Plan) (graph : graph_of q ≡ closing (graph_of p) (λ e. eqb e link)) (marks : mark_of q ≡ mark_of p) where
  other_first : first_of q ≡ first (closing (graph_of p) (λ e. eqb e link)) numbers (mark_of p)
  other_first = ap (λ w. first (graph_of q) numbers w) marks ∙ ap (λ g. first g numbers (mark_of p)) graph

  every : (Avoidable (graph_of p) numbers (mark_of p) (λ e. eqb e link) → ⊥) → InEvery (graph_of p) numbers (mark_of p) link
  every none = (in_every_stands numbers numbers_lawful (graph_of p) (mark_of p) link).1 none

  pub every_by_marks : HasTree p → (same : Bool) → Decides same (map (mark_of p) (first_of p) ≡ map (mark_of q) (first_of q))
      → Decides (not same) (InEvery (graph_of p) numbers (mark_of p) link)
  every_by_marks tree same d =
      let w = mark_of p in
      let g = graph_of p in
      let closed = λ (e : ℕ). eqb e link in
      let others : map (mark_of q) (first_of q) ≡ map w (first (closing g closed) numbers w) = ap (λ v. map v (first_of q)) marks ∙ ap (map w) other_first in (
        (λ no. every (λ some.
            let h = avoidable_marks g (plan_fits p) numbers numbers_lawful w closed some in
            both_ways same (not-true same no) (d.1 (sym h.2 ∙ sym others)))),
        (λ all. elim (cases_Bool same) [
          | inl t ↦
              let e : map w (first_of p) ≡ map w (first (closing g closed) numbers w) = d.0 t ∙ others in
              let size = tree_size p tree in
              let long : length (first (closing g closed) numbers w) ≡ length (first_of p) =
              sym (length-map (first (closing g closed) numbers w) w) ∙ ap length (sym e) ∙ length-map (first_of p) w in
              absurd ((in_every_stands numbers numbers_lawful g w link).0 all
              (marks_avoidable g (plan_fits p) numbers numbers_lawful w closed size (omega (arith, size, long)) (sym e)))
          | inr f ↦ not_from_false same f
        ]),
      )

  other_size : HasTree q → length (first (closing (graph_of p) (λ e. eqb e link)) numbers (mark_of p)) + 1 ≡ p.sites
  other_size other = ap (λ xs. length xs + 1) (sym other_first) ∙ tree_size q other ∙ ap (λ (g : Graph). g.sites) graph

  -- their totals tell it too
  pub every_by_totals : HasTree p → HasTree q → (total least : ℕ) → total ≡ sum_of numbers (map (mark_of q) (first_of q))
      → least ≡ sum_of numbers (map (mark_of p) (first_of p)) → Decides (not (eqb total least)) (InEvery (graph_of p) numbers (mark_of p) link)
  every_by_totals tree other total least total-is least-is =
      let w = mark_of p in
      let g = graph_of p in
      let closed = λ (e : ℕ). eqb e link in
      let without = first (closing g closed) numbers w in
      let others : map (mark_of q) (first_of q) ≡ map w without = ap (λ v. map v (first_of q)) marks ∙ ap (map w) other_first in
      let sums : total ≡ sum_of numbers (map w without) = total-is ∙ ap (sum_of numbers) others in (
        (λ no. every (λ some.
            let h = avoidable_marks g (plan_fits p) numbers numbers_lawful w closed some in
            both_ways (eqb total least) (not-true (eqb total least) no) (eq-eqb total least (sums ∙ ap (sum_of numbers) h.2 ∙ sym least-is)))),
        (λ all. elim (cases_Bool (eqb total least)) [
          | inl t ↦
              absurd ((in_every_stands numbers numbers_lawful g w link).0 all
              (reaches_avoidable g (plan_fits p) numbers numbers_lawful w closed (
                other_size other,
                (
                  tree_size p tree,
                  le_refl numbers numbers_lawful (sum_of numbers (map w without)) (sum_of numbers (map w (first_of p)))
                      (sym sums ∙ eqb-true total least t ∙ least-is),
                ),
              )))
          | inr f ↦ not_from_false (eqb total least) f
        ]),
      )

  -- where there is a tree only with the link, every tree has it
  pub every_alone : (HasTree q → ⊥) → InEvery (graph_of p) numbers (mark_of p) link
  every_alone none = every (λ some.
      let h = avoidable_marks (graph_of p) (plan_fits p) numbers numbers_lawful (mark_of p) (λ (e : ℕ). eqb e link) some in
      none (size_tree q (ap (λ xs. length xs + 1) other_first ∙ h.1 ∙ sym (ap (λ (g : Graph). g.sites) graph))))
