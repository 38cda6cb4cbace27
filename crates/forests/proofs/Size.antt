-- A forest of k links on n sites leaves n - k components. At first every site is its own label; a
-- link between two components takes that from exactly one site, the label that gives way. So if a
-- forest joins all sites, one such site is left and the forest has n - 1 links, and the other way
-- round.
use Rattle.std.proofs.Common.{◌≡◌, ℕ, ◌+◌, ◌<◌, false, eqb, List, [], ◌∷◌, length, sym, refl, ap, ◌∙◌, inl, inr, arith}
use Rattle.std.proofs.lemmas.Bool.{cases_eq, eq-eqb, ne_eqb, cond_both}
use Rattle.forests.specs.Counts.{count}
use Rattle.forests.specs.Graphs.{Joined, Spans, Inside}
use Rattle.forests.specs.Closures.{Indep}
use Rattle.forests.specs.Labels.{relabel, find, roots}
use Rattle.forests.proofs.Counting.{count_all, count_none, count_one_less, count_unique}
use Rattle.forests.proofs.Labelling.{relabel_hit, relabel_miss, joined_label, label_joined, label_twice}

module _ (from to : ℕ → ℕ) (n : ℕ) where
  pub label_inside : (S : List ℕ) → Inside from to n S → (u : ℕ) → u < n → find from to S u < n
  label_inside [] h u l = l
  label_inside (f ∷ S) h u l =
      let old = label_inside S (λ e m. h e (inr m)) in
      cond_both (eqb (find from to S u) (find from to S (from f))) (find from to S (to f)) (find from to S u) (λ x. x < n)
      (λ _. old (to f) (h f (inl refl)).1) (λ _. old u l)

  -- one link more makes one component less
  pub roots_more : (f : ℕ) (S : List ℕ) → Inside from to n (f ∷ S) → (Spans from to S f → ⊥)
      → roots (find from to S) n ≡ roots (find from to (f ∷ S)) n + 1
  roots_more f S h apart =
      let p = find from to S (from f) in
      let q = find from to S (to f) in
      let pq : p ≡ q → ⊥ = λ e. apart (label_joined from to S (from f) (to f) e) in
      let p-own : find from to S p ≡ p = label_twice from to S (from f) in
      let q-own : find from to S q ≡ q = label_twice from to S (to f) in
      let p-now : find from to (f ∷ S) p ≡ q = ap (relabel p q) p-own ∙ relabel_hit p q in
      let others : (u : ℕ) → (u ≡ p → ⊥) → eqb (find from to S u) u ≡ eqb (find from to (f ∷ S) u) u = λ u ne.
      elim (cases_eq (find from to S u) p) [
        | inl e ↦
            let now : find from to (f ∷ S) u ≡ q = ap (relabel p q) e ∙ relabel_hit p q in
            ne_eqb (find from to S u) u (λ k. ne (sym k ∙ e))
            ∙ sym (ne_eqb (find from to (f ∷ S) u) u (λ k. pq (sym e ∙ ap (find from to S) (sym k ∙ now) ∙ q-own)))
        | inr away ↦ ap (λ x. eqb x u) (sym (relabel_miss p q (find from to S u) away))
      ] in
      count_one_less (λ u. eqb (find from to S u) u) (λ u. eqb (find from to (f ∷ S) u) u) n p
      (λ u _ ne. others u ne)
      (label_inside S (λ e m. h e (inr m)) (from f) (h f (inl refl)).0)
      (eq-eqb (find from to S p) p p-own)
      (ne_eqb (find from to (f ∷ S) p) p (λ k. pq (sym k ∙ p-now)))

  pub roots_forest : (S : List ℕ) → Inside from to n S → Indep (Spans from to) S → roots (find from to S) n + length S ≡ n
  roots_forest [] h i = omega (arith, count_all (λ u. eqb u u) n (λ u _. eq-eqb u u refl))
  roots_forest (f ∷ S) h i =
      omega (arith, roots_more f S h i.0, roots_forest S (λ e m. h e (inr m)) i.1)

  -- a forest that joins all sites
  pub forest_size : (S : List ℕ) → 0 < n → Inside from to n S → Indep (Spans from to) S → ((u v : ℕ) → u < n → v < n → Joined from to S u v)
      → length S + 1 ≡ n
  forest_size S some inside indep joins =
      let r = find from to S 0 in
      let own : find from to S r ≡ r = label_twice from to S 0 in
      let one_label : (u : ℕ) → u < n → find from to S u ≡ r = λ u l. joined_label from to S u 0 (joins u 0 l some) in
      let one : roots (find from to S) n ≡ count (λ _. false) n + 1 =
      count_one_less (λ u. eqb (find from to S u) u) (λ _. false) n r
      (λ u l ne. ne_eqb (find from to S u) u (λ k. ne (sym k ∙ one_label u l)))
      (label_inside S inside 0 some) (eq-eqb (find from to S r) r own) refl in
      omega (arith, one, count_none (λ _. false) n (λ _ _. refl), roots_forest S inside indep)

  -- and the other way round
  pub forest_joins : (S : List ℕ) → Inside from to n S → Indep (Spans from to) S → length S + 1 ≡ n
      → (u v : ℕ) → u < n → v < n → Joined from to S u v
  forest_joins S inside indep size u v lu lv =
      let label = find from to S in
      label_joined from to S u v (count_unique (λ x. eqb (label x) x) n (label u) (label v)
      (omega (arith, roots_forest S inside indep))
      (label_inside S inside u lu) (label_inside S inside v lv)
      (eq-eqb (label (label u)) (label u) (label_twice from to S u))
      (eq-eqb (label (label v)) (label v) (label_twice from to S v)))
