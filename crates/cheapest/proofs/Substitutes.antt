-- One link for another. In the row of a cheapest tree put f in the place of e. If f closes no ring with
-- the rest, the result is a spanning tree; its total differs from the row's in one amount only, so it is
-- a cheapest tree if and only if the two amounts are the same.
use Rattle.std.proofs.Common.{◌≡◌, ℕ, true, List, [], ◌∷◌, ◌++◌, map, sym, ap, ◌∙◌, subst, inl, inr, arith}
use Rattle.std.proofs.lemmas.List.{length-append}
use Rattle.forests.specs.Closures.{Indep}
use Rattle.forests.specs.Graphs.{Graph, Fits, ClosesRing, Allowed, SpanningTree}
use Rattle.forests.specs.Labels.{closes_ring}
use Rattle.forests.proofs.Closure.{wider}
use Rattle.forests.proofs.Members.{in_left, in_right, in_either}
use Rattle.forests.proofs.Labelling.{chains}
use Rattle.forests.proofs.Trees.{tree_indep, indep_tree}
use Rattle.weights.specs.Scales.{Scale, Lawful, sum_of}
use Rattle.cheapest.specs.Ranks.{rank}
use Rattle.cheapest.specs.Completions.{sorted, first}
use Rattle.cheapest.specs.Classes.{SubstituteStands}
use Rattle.cheapest.proofs.Amounts.{le_refl, le_cancel, total_sorted}
use Rattle.cheapest.proofs.Totals.{total_middle, tree_by_total, cheapest_low, cheapest_totals}

-- an independent list stays so without one of its members
pub indep_without : (g : Graph) (front back : List ℕ) (e : ℕ) → Indep (ClosesRing g) (front ++ (e ∷ back)) → Indep (ClosesRing g) (front ++ back)
indep_without g [] back e i = i.1
indep_without g (x ∷ front) back e i = (
  (λ h. i.0 (wider (ClosesRing g) (closes_ring g) (chains g.from g.to) (front ++ back) (front ++ (e ∷ back)) x
      (λ z m. elim (in_either z front back m) [ inl a ↦ in_left z front (e ∷ back) a | inr b ↦ in_right z front (e ∷ back) (inr b) ]) h)),
  indep_without g front back e i.1,
)

pub substituted_tree : (g : Graph) → Fits g → (front back : List ℕ) (e f : ℕ) → SpanningTree g (front ++ (e ∷ back)) → Allowed g (f ∷ (front ++ back))
    → (ClosesRing g (front ++ back) f → ⊥) → SpanningTree g (f ∷ (front ++ back))
substituted_tree g fits front back e f t a apart =
    indep_tree g fits (f ∷ (front ++ back)) (apart, indep_without g front back e (tree_indep g fits (front ++ (e ∷ back)) t)) a
    (omega (arith, t.size, length-append front (e ∷ back), length-append front back))

module _ (s : Scale) (laws : Lawful s) where
  pub substitute_stands : SubstituteStands s
  substitute_stands g fits w front back e f c a apart =
      let key = rank g s w in
      let r = front ++ (e ∷ back) in
      let S = f ∷ (front ++ back) in
      let rest = sum_of s (map w (front ++ back)) in
      let t = substituted_tree g fits front back e f c.row.tree a apart in
      let r-total : sum_of s (map w r) ≡ s.add (w e) rest = total_middle s laws w front back e in (
        (λ d.
            let same : s.add (w f) rest ≡ s.add (w e) rest =
            sym (total_sorted s laws w key S) ∙ cheapest_totals g fits s laws w (sorted key S) r d c ∙ r-total in
            laws.antisym (w f) (w e)
            (le_cancel s laws (w f) (w e) rest (le_refl s laws (s.add (w f) rest) (s.add (w e) rest) same))
            (le_cancel s laws (w e) (w f) rest (le_refl s laws (s.add (w e) rest) (s.add (w f) rest) (sym same)))),
        (λ same. tree_by_total g fits s laws w S t
            (subst (λ z. s.le z (sum_of s (map w (first g s w))) ≡ true) (r-total ∙ ap (λ z. s.add z rest) (sym same)) (cheapest_low g fits s laws w r c))),
      )
