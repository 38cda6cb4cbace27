-- The test that tells cheapest rows. One run over the candidates tells whether a list of links rises, is
-- among the candidates and closes no ring; with the first row's amounts it is then a cheapest tree's row,
-- and every such row passes.
use Rattle.std.proofs.Common.{◌≡◌, ℕ, ◌+◌, Bool, true, false, not, eqb, List, [], ◌∷◌, map, length, sym, refl, ap, ◌∙◌, subst, inl, inr, arith}
use Rattle.std.proofs.lemmas.List.{length-map}
use Rattle.std.proofs.lemmas.Bool.{cases_eq, cases_Bool, cond-true, cond-false, eq-eqb, ne_eqb, and_parts, and_from, not-true, not_from_false, both_ways, false≢true}
use Rattle.weights.specs.Amounts.{numbers}
use Rattle.forests.specs.Lists.{In, Within, Rising}
use Rattle.forests.specs.Closures.{Closure, Free}
use Rattle.forests.specs.Graphs.{ClosesRing}
use Rattle.forests.specs.Labels.{below, closes_ring}
use Rattle.forests.proofs.Labelling.{chains}
use Rattle.cheapest.specs.Trees.{Cheapest}
use Rattle.cheapest.specs.Plans.{graph_of, mark_of, ranked_of, first_of}
use Rattle.cheapest.specs.Scans.{matches}
use Rattle.cheapest.specs.Runs.{row_in}
use Rattle.cheapest.specs.declared.candidates.Candidates.{Candidates}
use Rattle.cheapest.proofs.Successors.{Best}
use Rattle.cheapest.proofs.Bases.{first_base}
use Rattle.cheapest.proofs.TreeRows.{graph_setting, graph_proper, candidates_rising, cheapest_best, best_cheapest}
use Rattle.cheapest.proofs.Numbers.{numbers_lawful}
use Rattle.cheapest.proofs.Listed.{key_of, plan_fits, listed}
use Rattle.cheapest.proofs.Translation.{matches_same, small_below}

module _ (Span : List ℕ → ℕ → Type 0) (test : List ℕ → ℕ → Bool) (C : Closure Span test) (key : ℕ → ℕ) where
  match_sound : (S cs row : List ℕ) → Rising key cs → matches test (λ x. x) S cs row ≡ true → Rising key row × Within row cs × Free Span S row
  match_sound S [] [] o e = (tt, (λ _ m. m), tt)
  match_sound S [] (x ∷ row) o e = absurd (false≢true e)
  match_sound S (c ∷ cs) [] o e = (tt, (λ _ m. absurd m), tt)
  match_sound S (c ∷ cs) (x ∷ row) o e = elim (cases_eq c x) [
    | inl k ↦
        let yes-part = and_parts (not (test S c)) (matches test (λ y. y) (c ∷ S) cs row) (sym (cond-true (eqb c x) _ _ (eq-eqb c x k)) ∙ e) in
        let inner = match_sound (c ∷ S) cs row o.1 yes-part.1 in
        let apart : Span S c → ⊥ = λ s. both_ways (test S c) (not-true (test S c) yes-part.0) ((C.dec S c).1 s) in (
          subst (λ z. Rising key (z ∷ row)) k ((λ y m. o.0 y (inner.1 y m)), inner.0),
          (λ y m. elim m [ inl h ↦ inl (h ∙ sym k) | inr h ↦ inr (inner.1 y h) ]),
          subst (λ z. Free Span S (z ∷ row)) k (apart, inner.2),
        )
    | inr ne ↦
        let inner = match_sound S cs (x ∷ row) o.1 (sym (cond-false (eqb c x) _ _ (ne_eqb c x ne)) ∙ e) in
        (inner.0, (λ y m. inr (inner.1 y m)), inner.2)
  ]

  match_whole : (S cs row : List ℕ) → Rising key cs → Rising key row → Within row cs → Free Span S row → matches test (λ x. x) S cs row ≡ true
  match_whole S [] [] o r w f = refl
  match_whole S [] (x ∷ row) o r w f = absurd (w x (inl refl))
  match_whole S (c ∷ cs) [] o r w f = refl
  match_whole S (c ∷ cs) (x ∷ row) o r w f = elim (cases_eq c x) [
    | inl k ↦
        let clear : test S c ≡ false = elim (cases_Bool (test S c)) [
          | inl t ↦ absurd (f.0 (subst (Span S) k ((C.dec S c).0 t)))
          | inr n ↦ n
        ] in
        let inner : Within row cs = λ y m. elim (w y (inr m)) [ inl h ↦ absurd (omega (arith, ap key h, ap key k, r.0 y m)) | inr h ↦ h ] in
        cond-true (eqb c x) _ _ (eq-eqb c x k)
        ∙ and_from (not (test S c)) (matches test (λ y. y) (c ∷ S) cs row) (not_from_false (test S c) clear)
        (match_whole (c ∷ S) cs row o.1 r.1 inner (subst (λ z. Free Span (z ∷ S) row) (sym k) f.1))
    | inr ne ↦
        let here : In x cs = elim (w x (inl refl)) [ inl h ↦ absurd (ne (sym h)) | inr h ↦ h ] in
        let inner : Within (x ∷ row) cs = λ y m. elim m [
          | inl h ↦ subst (λ z. In z cs) (sym h) here
          | inr h ↦ elim (w y (inr h)) [ inl q ↦ absurd (omega (arith, ap key q, r.0 y h, o.0 x here)) | inr q ↦ q ]
        ] in
        cond-false (eqb c x) _ _ (ne_eqb c x ne) ∙ match_whole S cs (x ∷ row) o.1 r inner f
  ]

-- the test, as the code makes it
module _ (list : Candidates) where
  passes_links : (row : List ℕ) → row_in list row ≡ matches (closes_ring (graph_of list.plan)) (λ x. x) [] (ranked_of list.plan) row
  passes_links row = matches_same list [] (below list.count) row (λ c m. absurd m) (small_below list)
      ∙ ap (λ cs. matches (closes_ring (graph_of list.plan)) (λ x. x) [] cs row) (listed list)

  rising : Rising (key_of list.plan) (ranked_of list.plan)
  rising = candidates_rising (graph_of list.plan) numbers numbers_lawful (mark_of list.plan)

  pub free_passes : (row : List ℕ) → Rising (key_of list.plan) row → Within row (ranked_of list.plan) → Free (ClosesRing (graph_of list.plan)) [] row → row_in list row ≡ true
  free_passes row rises within free =
      let g = graph_of list.plan in
      passes_links row ∙ match_whole (ClosesRing g) (closes_ring g) (chains g.from g.to) (key_of list.plan) [] (ranked_of list.plan) row rising rises within free

  pub passes_best : (row : List ℕ) → row_in list row ≡ true → map (mark_of list.plan) row ≡ map (mark_of list.plan) (first_of list.plan)
      → Best (graph_setting (graph_of list.plan) (key_of list.plan) []) numbers (mark_of list.plan) row
  passes_best row e level =
      let p = list.plan in
      let g = graph_of p in
      let w = mark_of p in
      let m = match_sound (ClosesRing g) (closes_ring g) (chains g.from g.to) (key_of p) [] (ranked_of p) row rising (sym (passes_links row) ∙ e) in
      record {
        base = record { rises = m.0; within = m.1; free = m.2; size = omega (arith, length-map row w, length-map (first_of p) w, ap length level) };
        amounts = level;
      }

  pub best_passes : (row : List ℕ) → Best (graph_setting (graph_of list.plan) (key_of list.plan) []) numbers (mark_of list.plan) row → row_in list row ≡ true
  best_passes row b = free_passes row b.base.rises b.base.within b.base.free

  pub passes_cheapest : length (first_of list.plan) + 1 ≡ list.plan.sites → (row : List ℕ) → row_in list row ≡ true
      → map (mark_of list.plan) row ≡ map (mark_of list.plan) (first_of list.plan) → Cheapest (graph_of list.plan) numbers (mark_of list.plan) row
  passes_cheapest size row e level =
      best_cheapest (graph_of list.plan) numbers numbers_lawful (mark_of list.plan) (plan_fits list.plan) size row (passes_best row e level)

  pub cheapest_passes : (row : List ℕ) → Cheapest (graph_of list.plan) numbers (mark_of list.plan) row
      → (row_in list row ≡ true) × (map (mark_of list.plan) row ≡ map (mark_of list.plan) (first_of list.plan))
  cheapest_passes row c =
      let b = cheapest_best (graph_of list.plan) numbers numbers_lawful (mark_of list.plan) (plan_fits list.plan) row c in
      (best_passes row b, b.amounts)

  pub first_best : Best (graph_setting (graph_of list.plan) (key_of list.plan) []) numbers (mark_of list.plan) (first_of list.plan)
  first_best = record {
    base = first_base (graph_setting (graph_of list.plan) (key_of list.plan) []) (graph_proper (graph_of list.plan) numbers numbers_lawful (mark_of list.plan) [] tt);
    amounts = refl;
  }
