-- Which links are in some cheapest tree together. Complete the links F that are wanted, and compare the
-- total with that of the first row: a cheapest tree that has F is F with links that could be put upon
-- it, and the completion is the cheapest such.
use Rattle.std.proofs.Common.{◌≡◌, ℕ, ◌+◌, true, List, [], map, length, sym, ap, ◌∙◌, subst, inl, inr, arith}
use Rattle.forests.specs.Lists.{Within}
use Rattle.forests.specs.Closures.{Indep, push, picks}
use Rattle.forests.specs.Graphs.{Graph, Fits, ClosesRing, Allowed}
use Rattle.forests.specs.Labels.{closes_ring}
use Rattle.forests.proofs.Members.{in_kept, in_parts, same_members, length_push}
use Rattle.forests.proofs.Closure.{indep_different}
use Rattle.forests.proofs.Completion.{picks_within, picks_free, picks_indep, picks_longest, picks_no_longer, picks_upon}
use Rattle.forests.proofs.Labelling.{chains}
use Rattle.forests.proofs.Trees.{tree_free, indep_tree}
use Rattle.weights.specs.Scales.{Scale, Lawful, sum_of}
use Rattle.cheapest.specs.Ranks.{rank}
use Rattle.cheapest.specs.Trees.{Row}
use Rattle.cheapest.specs.Completions.{candidates, sorted, completion, first}
use Rattle.cheapest.specs.Classes.{InSome, Reaches, InSomeStands}
use Rattle.cheapest.proofs.Amounts.{add_le_right, total_sorted}
use Rattle.cheapest.proofs.Sorting.{sorted_in, in_sorted, rising_unique}
use Rattle.cheapest.proofs.TreeRows.{candidate_allowed, allowed_candidate, completion_least, first_size, tree_row}
use Rattle.cheapest.proofs.Totals.{total_push, tree_by_total, cheapest_low}

module _ (g : Graph) (fits : Fits g) (s : Scale) (laws : Lawful s) (w : ℕ → s.Amount) where
  -- a list of allowed links upon allowed links
  push_allowed : (F xs : List ℕ) → Allowed g F → Allowed g xs → Allowed g (push F xs)
  push_allowed F xs a b e m = elim (in_parts e xs F m) [ inl h ↦ b e h | inr h ↦ a e h ]

  completion_allowed : (F : List ℕ) → Allowed g (completion g s w F)
  completion_allowed F e m = candidate_allowed g (rank g s w) e (picks_within (closes_ring g) F (candidates g (rank g s w)) e m)

  completion_size : (F : List ℕ) → Indep (ClosesRing g) F → Allowed g F → length (completion g s w F) + length F ≡ length (first g s w)
  completion_size F i a = picks_upon (ClosesRing g) (closes_ring g) (chains g.from g.to) F (candidates g (rank g s w)) i
      (allowed_candidate g (rank g s w) F a)

  -- the rest of a tree that has F: as many links as the completion of F, with F they are the tree
  module _ (r F : List ℕ) (row : Row g (rank g s w) r) (i : Indep (ClosesRing g) F) (within : Within F r) where
    rest_size : length (picks (closes_ring g) F r) + length F ≡ length r
    rest_size =
        let Span = ClosesRing g in
        let test = closes_ring g in
        let C = chains g.from g.to in
        omega (
          arith,
          picks_upon Span test C F r i within,
          picks_no_longer test [] r,
          picks_longest Span test C [] r r tt (tree_free g fits r row.tree) (λ _ m. m),
        )

    rest_total : sum_of s (map w (push F (picks (closes_ring g) F r))) ≡ sum_of s (map w r)
    rest_total =
        let Span = ClosesRing g in
        let test = closes_ring g in
        let C = chains g.from g.to in
        let key = rank g s w in
        let S = push F (picks test F r) in
        let indep = picks_indep Span test C F r i in
        let inside : Within S r = λ e m. elim (in_parts e (picks test F r) F m) [ inl h ↦ picks_within test F r e h | inr h ↦ within e h ] in
        let len : length S ≡ length r = omega (arith, length_push F (picks test F r), rest_size) in
        let back : Within r S = same_members S r (indep_different Span test C S indep) inside (omega (arith, len)) in
        let t = indep_tree g fits S indep (λ e m. row.tree.allowed e (inside e m)) (omega (arith, len, row.tree.size)) in
        sym (total_sorted s laws w key S)
        ∙ ap (λ xs. sum_of s (map w xs)) (rising_unique key (sorted key S) r (tree_row g s laws w fits S t).rises row.rises
        (λ e m. inside e (sorted_in key e S m)) (λ e m. in_sorted key e S (back e m)))

  pub some_reaches : (F : List ℕ) → Indep (ClosesRing g) F → Allowed g F → InSome g s w F → Reaches g s w (push F (completion g s w F))
  some_reaches F i a some =
      let r = some.0 in
      let c = some.1 in
      let within = some.2 in
      let K = completion g s w F in
      let rest = picks (closes_ring g) F r in
      let size = first_size g s laws w fits r c.row.tree in
      let low : s.le (sum_of s (map w K)) (sum_of s (map w rest)) ≡ true =
      completion_least g s laws w F rest i (picks_free (ClosesRing g) (closes_ring g) (chains g.from g.to) F r)
      (λ e m. c.row.tree.allowed e (picks_within (closes_ring g) F r e m))
      (omega (arith, completion_size F i a, rest_size r F c.row i within, size, c.row.tree.size)) in
      let lower-all : s.le (sum_of s (map w (push F K))) (sum_of s (map w (push F rest))) ≡ true =
      subst (λ a. s.le a (sum_of s (map w (push F rest))) ≡ true) (sym (total_push s laws w F K))
      (subst (λ b. s.le (s.add (sum_of s (map w F)) (sum_of s (map w K))) b ≡ true) (sym (total_push s laws w F rest))
      (add_le_right s laws (sum_of s (map w K)) (sum_of s (map w rest)) (sum_of s (map w F)) low)) in (
        size,
        laws.trans (sum_of s (map w (push F K))) (sum_of s (map w r)) (sum_of s (map w (first g s w)))
            (subst (λ b. s.le (sum_of s (map w (push F K))) b ≡ true) (rest_total r F c.row i within) lower-all)
            (cheapest_low g fits s laws w r c),
      )

  pub reaches_some : (F : List ℕ) → Indep (ClosesRing g) F → Allowed g F → Reaches g s w (push F (completion g s w F)) → InSome g s w F
  reaches_some F i a h =
      let key = rank g s w in
      let K = completion g s w F in
      let S = push F K in
      let t = indep_tree g fits S (picks_indep (ClosesRing g) (closes_ring g) (chains g.from g.to) F (candidates g key) i)
      (push_allowed F K a (completion_allowed F)) (omega (arith, length_push F K, completion_size F i a, h.0)) in
      (sorted key S, tree_by_total g fits s laws w S t h.1, λ e m. in_sorted key e S (in_kept e K F m))

module _ (s : Scale) (laws : Lawful s) where
  pub in_some_stands : InSomeStands s
  in_some_stands g fits w F i a = (some_reaches g fits s laws w F i a, reaches_some g fits s laws w F i a)
