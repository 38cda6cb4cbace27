-- Links that stand in for a link of a cheapest row. Without the link the row falls into two parts; a link of
-- its mark that closes no ring with the rest stands in, and whatever stands in is such a link.
use Rattle.std.proofs.Common.{◌≡◌, ℕ, zero, suc, ◌+◌, ◌-◌, ◌<◌, ◌≤◌, true, false, List, [], ◌∷◌, ◌++◌, map, length, get_or, take, drop, sym, refl, ap, ◌∙◌, subst, inl, inr, arith}
use Rattle.std.proofs.Math.Seq.{split_at}
use Rattle.std.proofs.lemmas.List.{ext_get_or, length-append, length-drop, length-take-le, get_or_append_left, get_or-append_right, get_or-drop, get_or-take}
use Rattle.std.proofs.lemmas.Bool.{both_ways, cases_Bool, cases_lt}
use Rattle.weights.specs.Amounts.{numbers}
use Rattle.forests.specs.Lists.{In, Within, Different, Rising}
use Rattle.forests.specs.Closures.{Indep, push}
use Rattle.forests.specs.Graphs.{ClosesRing, Allowed, SpanningTree}
use Rattle.forests.specs.Labels.{closes_ring}
use Rattle.forests.proofs.Closure.{wider}
use Rattle.forests.proofs.Completion.{indep_is_free}
use Rattle.forests.proofs.Labelling.{chains}
use Rattle.forests.proofs.Members.{in_left, in_right, in_either, in_turned, in_parts, in_get_d, place}
use Rattle.forests.proofs.Trees.{tree_indep, tree_any_order}
use Rattle.cheapest.specs.Completions.{sorted}
use Rattle.cheapest.specs.Plans.{graph_of, mark_of, ranked_of}
use Rattle.cheapest.specs.Positions.{CheapestIn}
use Rattle.cheapest.specs.Scans.{ring, Crosses}
use Rattle.cheapest.specs.StandIns.{StandsIn}
use Rattle.cheapest.specs.Runs.{row_in}
use Rattle.cheapest.specs.declared.candidates.Candidates.{Candidates}
use Rattle.cheapest.specs.Candidates.{start_of, end_of, class_of, number_of}
use Rattle.cheapest.proofs.Listed.{key_of, plan_fits, candidate_in}
use Rattle.cheapest.proofs.Numbers.{numbers_lawful}
use Rattle.cheapest.proofs.Orders.{ordered_take, ordered_append, ordered_rest, ordered_across}
use Rattle.cheapest.proofs.RowTests.{free_passes}
use Rattle.cheapest.proofs.Sorting.{sorted_in, in_sorted, length_sorted}
use Rattle.cheapest.proofs.Substitutes.{indep_without, substitute_stands}
use Rattle.cheapest.proofs.Translation.{map_push, ring_same}
use Rattle.cheapest.proofs.TreeRows.{candidate_allowed, allowed_candidate}

-- the list without its member at place q
abbrev pub leaving : ℕ → List ℕ → List ℕ
leaving q xs = take q xs ++ drop (suc q) xs

pub split_same : (xs front back : List ℕ) (q e : ℕ) → Different xs → q < length xs → get_or xs q 0 ≡ e → xs ≡ front ++ (e ∷ back) → front ++ back ≡ leaving q xs
split_same [] front back q e d l at s = absurd (omega arith)
split_same (x ∷ xs) [] back zero e d l at s = let t : xs ≡ back = cc in sym t
split_same (x ∷ xs) [] back (suc q) e d l at s =
    let h : x ≡ e = cc in
    absurd (d.0 (subst (λ z. In z xs) (at ∙ sym h) (in_get_d xs q 0 (omega arith))))
split_same (x ∷ xs) (y ∷ front) back zero e d l at s =
    let t : xs ≡ front ++ (e ∷ back) = cc in
    absurd (d.0 (subst (λ zs. In x zs) (sym t) (in_right x front (e ∷ back) (inl at))))
split_same (x ∷ xs) (y ∷ front) back (suc q) e d l at s =
    let t : xs ≡ front ++ (e ∷ back) = cc in
    let h : x ≡ y = cc in
    ap (λ z. z ∷ (front ++ back)) (sym h) ∙ ap (λ zs. x ∷ zs) (split_same xs front back q e d.1 (omega arith) at t)

pub leaving_within : (q : ℕ) (xs : List ℕ) → q < length xs → Within (leaving q xs) xs
leaving_within q xs l x m = subst (λ ys. In x ys) (sym (split_at xs q 0 l))
    (elim (in_either x (take q xs) (drop (suc q) xs) m) [
      | inl a ↦ in_left x (take q xs) (get_or xs q 0 ∷ drop (suc q) xs) a
      | inr b ↦ in_right x (take q xs) (get_or xs q 0 ∷ drop (suc q) xs) (inr b)
    ])

pub length_leaving : (q : ℕ) (xs : List ℕ) → q < length xs → length (leaving q xs) + 1 ≡ length xs
length_leaving q xs l =
    omega (arith, length-append (take q xs) (drop (suc q) xs), length-take-le q xs (omega arith), length-drop (suc q) xs)

module _ (list : Candidates) (row : List ℕ) (cheapest : CheapestIn list.plan row) (q : ℕ) (here : q < length row) where
  rest_indep : Indep (ClosesRing (graph_of list.plan)) (leaving q row)
  rest_indep =
      let g = graph_of list.plan in
      indep_without g (take q row) (drop (suc q) row) (get_or row q 0)
      (subst (Indep (ClosesRing g)) (split_at row q 0 here) (tree_indep g (plan_fits list.plan) row cheapest.row.tree))

  -- the rest passes the test for rows
  pub rest_passes : row_in list (leaving q row) ≡ true
  rest_passes =
      let g = graph_of list.plan in
      let key = key_of list.plan in
      let R : ℕ → ℕ → Type 0 = λ x y. key x < key y in
      let e = get_or row q 0 in
      let whole : Rising key (take q row ++ (e ∷ drop (suc q) row)) = subst (Rising key) (split_at row q 0 here) cheapest.row.rises in
      free_passes list (leaving q row)
      (ordered_append R (take q row) (drop (suc q) row) (ordered_take R q row cheapest.row.rises) (ordered_rest R (take q row) (e ∷ drop (suc q) row) whole).1
      (λ x y a b. ordered_across R (take q row) (e ∷ drop (suc q) row) whole x y a (inr b)))
      (λ x m. allowed_candidate g key row cheapest.row.tree.allowed x (leaving_within q row here x m))
      (indep_is_free (ClosesRing g) (closes_ring g) (chains g.from g.to) (leaving q row) rest_indep)

  module _ (at : List ℕ) (small : (c : ℕ) → In c at → c < list.count) (shown : map (number_of list) at ≡ leaving q row) where
    -- rings with the rest, in candidates and in links
    ring_rest : (c : ℕ) → c < list.count → closes_ring (graph_of list.plan) (push [] (leaving q row)) (number_of list c) ≡ ring (start_of list) (end_of list) (push [] at) c
    ring_rest c l =
        ap (λ S. closes_ring (graph_of list.plan) S (number_of list c)) (ap (push []) (sym shown) ∙ sym (map_push (number_of list) [] at))
        ∙ ring_same list (push [] at) c (λ d m. elim (in_parts d at [] m) [ inl a ↦ small d a | inr b ↦ absurd b ]) l

    apart_rest : (c : ℕ) → c < list.count → ring (start_of list) (end_of list) (push [] at) c ≡ false → ClosesRing (graph_of list.plan) (leaving q row) (number_of list c) → ⊥
    apart_rest c l f s =
        let g = graph_of list.plan in
        let C = chains g.from g.to in
        let h = number_of list c in
        both_ways (closes_ring g (push [] (leaving q row)) h) (ring_rest c l ∙ f)
        ((C.dec (push [] (leaving q row)) h).1 (wider (ClosesRing g) (closes_ring g) C (leaving q row) (push [] (leaving q row)) h (λ x m. in_turned x (leaving q row) [] m) s))

    allowed_swap : (h : ℕ) → (h < list.plan.count) × ((graph_of list.plan).usable h ≡ true) → Allowed (graph_of list.plan) (h ∷ leaving q row)
    allowed_swap h ok x (inl e) = subst (λ z. (z < list.plan.count) × ((graph_of list.plan).usable z ≡ true)) (sym e) ok
    allowed_swap h ok x (inr m) = cheapest.row.tree.allowed x (leaving_within q row here x m)

    -- the theorem on substitutes, at this place
    swap_stands : (h : ℕ) → (h < list.plan.count) × ((graph_of list.plan).usable h ≡ true) → (ClosesRing (graph_of list.plan) (leaving q row) h → ⊥)
        → (CheapestIn list.plan (sorted (key_of list.plan) (h ∷ leaving q row)) → mark_of list.plan h ≡ mark_of list.plan (get_or row q 0))
        × (mark_of list.plan h ≡ mark_of list.plan (get_or row q 0) → CheapestIn list.plan (sorted (key_of list.plan) (h ∷ leaving q row)))
    swap_stands h ok apart =
        let p = list.plan in
        substitute_stands numbers numbers_lawful (graph_of p) (plan_fits p) (mark_of p) (take q row) (drop (suc q) row) (get_or row q 0) h
        (subst (CheapestIn p) (split_at row q 0 here) cheapest) (allowed_swap h ok) apart

    module _ (e wanted : ℕ) (at_q : get_or row q 0 ≡ e) (mark : mark_of list.plan e ≡ wanted) where
      different : Different row
      different = cheapest.row.tree.different

      pub crosses_stands : (c : ℕ) → c < list.count → Crosses (start_of list) (end_of list) (class_of list) (number_of list) at e wanted c → StandsIn list.plan row e (number_of list c)
      crosses_stands c l x =
          let p = list.plan in
          let h = number_of list c in
          record {
            other = x.other;
            swaps = λ front back s.
                subst (λ zs. CheapestIn p (sorted (key_of p) (h ∷ zs))) (sym (split_same row front back q e different here at_q s))
                ((swap_stands h (candidate_allowed (graph_of p) (key_of p) h (candidate_in list c l)) (apart_rest c l x.apart)).1
                (sym (list.classes c l) ∙ x.level ∙ sym mark ∙ ap (mark_of p) (sym at_q)));
          }

      pub stands_crosses : (h : ℕ) → StandsIn list.plan row e h
          → (c : ℕ) × (c < list.count) × (number_of list c ≡ h) × Crosses (start_of list) (end_of list) (class_of list) (number_of list) at e wanted c
      stands_crosses h stands =
          let p = list.plan in
          let g = graph_of p in
          let key = key_of p in
          let C = chains g.from g.to in
          let S = h ∷ leaving q row in
          let swapped : CheapestIn p (sorted key S) = stands.swaps (take q row) (drop (suc q) row) (split_at row q 0 here ∙ ap (λ z. take q row ++ (z ∷ drop (suc q) row)) at_q) in
          let tree : SpanningTree g S = tree_any_order g (plan_fits p) (sorted key S) S swapped.row.tree (λ x m. sorted_in key x S m) (λ x m. in_sorted key x S m) (sym (length_sorted key S)) in
          let apart : ClosesRing g (leaving q row) h → ⊥ = (tree_indep g (plan_fits p) S tree).0 in
          let m = allowed_candidate g key S tree.allowed h (inl refl) in
          let at_c = place h (ranked_of p) 0 m in
          let c = at_c.0 in
          let l : c < list.count = omega (arith, at_c.1, list.all) in
          let is : number_of list c ≡ h = list.numbers c l ∙ at_c.2 in
          let level : mark_of p h ≡ mark_of p (get_or row q 0) = (swap_stands h (tree.allowed h (inl refl)) apart).0 swapped in (
            c,
            l,
            is,
            record {
              other = λ k. stands.other (sym is ∙ k);
              level = list.classes c l ∙ ap (mark_of p) is ∙ level ∙ ap (mark_of p) at_q ∙ mark;
              apart = elim (cases_Bool (ring (start_of list) (end_of list) (push [] at) c)) [
                | inl t ↦ absurd (apart (wider (ClosesRing g) (closes_ring g) C (push [] (leaving q row)) (leaving q row) h
                    (λ x k. elim (in_parts x (leaving q row) [] k) [ inl a ↦ a | inr b ↦ absurd b ])
                    (subst (ClosesRing g (push [] (leaving q row))) is ((C.dec (push [] (leaving q row)) (number_of list c)).0 (ring_rest c l ∙ t)))))
                | inr f ↦ f
              ];
            },
          )

-- the row with an entry left out, as an array
pub left_out : (size q : ℕ) (row rest : List ℕ) → q < size → size < 64 → length row ≡ 64 → length rest ≡ 64
    → ((j : ℕ) → j < q → get_or rest j 0 ≡ get_or row j 0) → ((j : ℕ) → (q ≤ j) × (j < 63) → get_or rest j 0 ≡ get_or row (j + 1) 0)
    → take (size - 1) rest ≡ leaving q (take size row)
left_out size q row rest l small wide wide' before after =
    let r = take size row in
    let long : length r ≡ size = length-take-le size row (omega arith) in
    let front : length (take q r) ≡ q = length-take-le q r (omega arith) in
    let n : length (leaving q r) + 1 ≡ size = length_leaving q r (omega arith) ∙ long in
    let n' : length (take (size - 1) rest) ≡ size - 1 = length-take-le (size - 1) rest (omega arith) in
    ext_get_or 0 (take (size - 1) rest) (leaving q r) (omega arith)
    (λ j k. let less : j < size - 1 = omega arith in
    get_or-take (size - 1) rest j 0 less
    ∙ elim (cases_lt j q) [
      | inl a ↦ before j a ∙ sym (get_or_append_left (take q r) (drop (suc q) r) 0 j (omega arith) ∙ get_or-take q r j 0 a ∙ get_or-take size row j 0 (omega arith))
      | inr b ↦
          let sum : suc q + (j - q) ≡ j + 1 = omega arith in
          after j (b, omega arith)
          ∙ sym (get_or-append_right (take q r) (drop (suc q) r) q j 0 front b ∙ get_or-drop (suc q) r (j - q) 0 ∙ ap (λ k'. get_or r k' 0) sum ∙ get_or-take size row (j + 1) 0 (omega arith))
    ])
