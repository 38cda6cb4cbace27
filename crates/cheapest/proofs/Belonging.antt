-- Links that some cheapest tree has. The greedy completion of a link that is no loop has the least total of
-- all trees with that link, so the link is in a cheapest tree if that total is the first row's.
use Rattle.std.proofs.Common.{◌≡◌, ℕ, ◌+◌, ◌<◌, true, false, leb, List, [], ◌∷◌, map, length, take, Decides, sym, refl, ap, ◌∙◌, subst, inl, inr, arith}
use Rattle.std.proofs.lemmas.List.{length-map, length-take-le}
use Rattle.std.proofs.lemmas.Bool.{both_ways, leb-true, le-leb}
use Rattle.weights.specs.Amounts.{numbers}
use Rattle.weights.specs.Scales.{sum_of}
use Rattle.forests.specs.Lists.{In}
use Rattle.forests.specs.Closures.{Indep, Free, push, picks}
use Rattle.forests.specs.Graphs.{Spans, ClosesRing, Allowed}
use Rattle.forests.specs.Labels.{below, closes_ring}
use Rattle.forests.proofs.Closure.{wider}
use Rattle.forests.proofs.Completion.{picks_within, picks_indep}
use Rattle.forests.proofs.Labelling.{chains}
use Rattle.forests.proofs.Members.{in_parts, length_push, place}
use Rattle.forests.proofs.Trees.{tree_free}
use Rattle.cheapest.specs.Classes.{InSome}
use Rattle.cheapest.specs.Completions.{completion}
use Rattle.cheapest.specs.Plans.{graph_of, mark_of, ranked_of, first_of}
use Rattle.cheapest.specs.Scans.{ring, grown, Filled}
use Rattle.cheapest.specs.declared.candidates.Candidates.{Candidates}
use Rattle.cheapest.specs.Candidates.{start_of, end_of, class_of, number_of}
use Rattle.cheapest.proofs.Classes.{some_reaches, reaches_some}
use Rattle.cheapest.proofs.Filling.{forest_short}
use Rattle.cheapest.proofs.Listed.{key_of, plan_fits, candidate_in, ends_fit}
use Rattle.cheapest.proofs.Numbers.{numbers_lawful}
use Rattle.cheapest.proofs.Sorting.{below_in}
use Rattle.cheapest.proofs.Standings.{classes_marks}
use Rattle.cheapest.proofs.Totals.{total_push}
use Rattle.cheapest.proofs.Translation.{first_same, grown_same, ring_same}
use Rattle.cheapest.proofs.TreeRows.{candidate_allowed, allowed_candidate}

module _ (list : Candidates) where
  -- the candidates of a greedy completion are candidates
  picked_small : (S : List ℕ) (c : ℕ) → In c (picks (ring (start_of list) (end_of list)) S (below list.count)) → c < list.count
  picked_small S c m = below_in list.count c (picks_within (ring (start_of list) (end_of list)) S (below list.count) c m)

  pub filled_marks : {at : List ℕ} {stack : List (List ℕ)} {size : ℕ} → Filled (start_of list) (end_of list) list.count [] at stack size
      → map (class_of list) (take size at) ≡ map (mark_of list.plan) (first_of list.plan)
  filled_marks filled =
      ap (map (class_of list)) filled.whole
      ∙ classes_marks list (picks (ring (start_of list) (end_of list)) [] (below list.count)) (picked_small [])
      ∙ ap (map (mark_of list.plan)) (sym (first_same list))

  pub filled_size : {at : List ℕ} {stack : List (List ℕ)} {size : ℕ} → length at ≡ 64 → Filled (start_of list) (end_of list) list.count [] at stack size
      → size ≡ length (first_of list.plan)
  filled_size {at} {stack} {size} wide filled =
      let w = mark_of list.plan in
      let f = class_of list in
      sym (length-take-le size at (omega (arith, filled.few))) ∙ sym (length-map (take size at) f) ∙ ap length (filled_marks filled) ∙ length-map (first_of list.plan) w

  module _ (c : ℕ) (l : c < list.count) where
    -- a loop is in no tree
    loop_nowhere : (Span : List ℕ → ℕ → Type 0) (S xs : List ℕ) (e : ℕ) → ((S T : List ℕ) → ((x : ℕ) → In x S → In x T) → Span S e → Span T e)
        → Free Span S xs → In e xs → Span S e → ⊥
    loop_nowhere Span S [] e more f m s = m
    loop_nowhere Span S (x ∷ xs) e more f (inl h) s = f.0 (subst (Span S) h s)
    loop_nowhere Span S (x ∷ xs) e more f (inr m) s = loop_nowhere Span (x ∷ S) xs e more f.1 m (more S (x ∷ S) (λ _ k. inr k) s)

    ring_link : closes_ring (graph_of list.plan) [] (number_of list c) ≡ ring (start_of list) (end_of list) [] c
    ring_link = ring_same list [] c (λ d m. absurd m) l

    pub loop_none : ring (start_of list) (end_of list) [] c ≡ true → InSome (graph_of list.plan) numbers (mark_of list.plan) (number_of list c ∷ []) → ⊥
    loop_none t some =
        let g = graph_of list.plan in
        let C = chains g.from g.to in
        let e = number_of list c in
        loop_nowhere (ClosesRing g) [] some.0 e (λ S T h s. wider (ClosesRing g) (closes_ring g) C S T e h s)
        (tree_free g (plan_fits list.plan) some.0 some.1.row.tree) (some.2 e (inl refl))
        ((C.dec [] e).0 (ring_link ∙ t))

    module _ (clear : ring (start_of list) (end_of list) [] c ≡ false) where
      alone : Indep (Spans (start_of list) (end_of list)) (c ∷ [])
      alone = ((λ s. both_ways (ring (start_of list) (end_of list) [] c) clear (((chains (start_of list) (end_of list)).dec [] c).1 s)), tt)

      pub grown_short : length (grown (start_of list) (end_of list) list.count (c ∷ []) 0) < 64
      grown_short =
          let from = start_of list in
          let to = end_of list in
          let test = ring (start_of list) (end_of list) in
          let Q = picks test (c ∷ []) (below list.count) in
          omega (
            arith,
            length_push (c ∷ []) Q,
            forest_short from to 64 (push (c ∷ []) Q) (omega arith)
                (λ d m. elim (in_parts d Q (c ∷ []) m) [
                  | inl a ↦ ends_fit list d (picked_small (c ∷ []) d a)
                  | inr (inl e) ↦ ends_fit list d (omega arith)
                  | inr (inr b) ↦ absurd b
                ])
                (picks_indep (Spans from to) test (chains from to) (c ∷ []) (below list.count) alone),
          )

      grown_small : (d : ℕ) → In d (grown (start_of list) (end_of list) list.count (c ∷ []) 0) → d < list.count
      grown_small d (inl e) = omega arith
      grown_small d (inr m) = picked_small (c ∷ []) d m

      -- the completion in candidates has the total of the completion in links
      total_same : sum_of numbers (map (class_of list) (grown (start_of list) (end_of list) list.count (c ∷ []) 0))
          ≡ sum_of numbers (map (mark_of list.plan) (push (number_of list c ∷ []) (completion (graph_of list.plan) numbers (mark_of list.plan) (number_of list c ∷ []))))
      total_same =
          let w = mark_of list.plan in
          let e = number_of list c in
          let K = completion (graph_of list.plan) numbers w (e ∷ []) in
          let in-links : map (class_of list) (grown (start_of list) (end_of list) list.count (c ∷ []) 0) ≡ map w (e ∷ K) =
          classes_marks list (grown (start_of list) (end_of list) list.count (c ∷ []) 0) grown_small
          ∙ ap (map w) (sym (grown_same list (c ∷ []) 0 (λ d m. elim m [ inl h ↦ omega arith | inr b ↦ absurd b ]))) in
          ap (sum_of numbers) in-links ∙ omega (arith, total_push numbers numbers_lawful w (e ∷ []) K)

      pub some_by_total : length (first_of list.plan) + 1 ≡ list.plan.sites → (mine least : ℕ)
          → mine ≡ sum_of numbers (map (class_of list) (grown (start_of list) (end_of list) list.count (c ∷ []) 0))
          → least ≡ sum_of numbers (map (mark_of list.plan) (first_of list.plan))
          → Decides (leb mine least) (InSome (graph_of list.plan) numbers (mark_of list.plan) (number_of list c ∷ []))
      some_by_total joined mine least mine-is least-is =
          let g = graph_of list.plan in
          let w = mark_of list.plan in
          let e = number_of list c in
          let fits = plan_fits list.plan in
          let C = chains g.from g.to in
          let indep : Indep (ClosesRing g) (e ∷ []) = ((λ s. both_ways (closes_ring g [] e) (ring_link ∙ clear) ((C.dec [] e).1 s)), tt) in
          let allowed : Allowed g (e ∷ []) = λ x m. elim m [
            | inl h ↦ subst (λ z. (z < g.links) × (g.usable z ≡ true)) (sym h) (candidate_allowed g (key_of list.plan) e (candidate_in list c l))
            | inr b ↦ absurd b
          ] in
          let mine-same = mine-is ∙ total_same in (
            (λ t. reaches_some g fits numbers numbers_lawful w (e ∷ []) indep allowed
                (joined, le-leb _ _ (omega (arith, leb-true mine least t, mine-same, least-is)))),
            (λ some. le-leb mine least (omega (arith, mine-same, least-is, leb-true _ _ (some_reaches g fits numbers numbers_lawful w (e ∷ []) indep allowed some).1))),
          )

  -- a link that is no candidate is in no tree
  pub none_some : (e : ℕ) → ((c : ℕ) → c < list.count → number_of list c ≡ e → ⊥) → InSome (graph_of list.plan) numbers (mark_of list.plan) (e ∷ []) → ⊥
  none_some e none some =
      let g = graph_of list.plan in
      let row = some.1.row in
      let m = allowed_candidate g (key_of list.plan) some.0 row.tree.allowed e (some.2 e (inl refl)) in
      let p = place e (ranked_of list.plan) 0 m in
      let k : p.0 < list.count = omega (arith, p.1, list.all) in
      none p.0 k (list.numbers p.0 k ∙ p.2)
