-- The labels of the sites below n, kept as a list, are the labels that `find` gives; so two sites
-- are joined if and only if the list has one number at both.
use Rattle.std.proofs.Common.{◌≡◌, ℕ, zero, suc, ◌<◌, ◌↔◌, List, [], ◌∷◌, length, get_or, sym, refl, ap, ◌∙◌, inl, inr, arith}
use Rattle.std.proofs.lemmas.List.{length-append, length-map, get_or_push, get_or_append_left, get_or-map}
use Rattle.std.proofs.lemmas.Bool.{cases_eq}
use Rattle.forests.specs.Graphs.{Joined, Inside}
use Rattle.forests.specs.Labels.{relabel, find, below, labels}
use Rattle.forests.proofs.Labelling.{joined_label, label_joined}

pub length_below : (n : ℕ) → length (below n) ≡ n
length_below zero = refl
length_below (suc n) = omega (arith, length-append (below n) (n ∷ []), length_below n)

pub get_d_below : (n u : ℕ) → u < n → get_or (below n) u 0 ≡ u
get_d_below zero u l = absurd (omega arith)
get_d_below (suc n) u l = elim (cases_eq u n) [
  | inl e ↦ get_or_push (below n) n 0 u (length_below n ∙ sym e) ∙ sym e
  | inr ne ↦ get_or_append_left (below n) (n ∷ []) 0 u (omega (arith, length_below n)) ∙ get_d_below n u (omega arith)
]

module _ (from to : ℕ → ℕ) (n : ℕ) where
  pub length_labels : (S : List ℕ) → length (labels from to n S) ≡ n
  length_labels [] = length_below n
  length_labels (f ∷ S) =
      let l = labels from to n S in
      length-map l (relabel (get_or l (from f) 0) (get_or l (to f) 0)) ∙ length_labels S

  pub get_d_labels : (S : List ℕ) (u : ℕ) → Inside from to n S → u < n → get_or (labels from to n S) u 0 ≡ find from to S u
  get_d_labels [] u h l = get_d_below n u l
  get_d_labels (f ∷ S) u h l =
      let ls = labels from to n S in
      let old : (v : ℕ) → v < n → get_or ls v 0 ≡ find from to S v = λ v k. get_d_labels S v (λ e m. h e (inr m)) k in
      let p-same = old (from f) (h f (inl refl)).0 in
      let q-same = old (to f) (h f (inl refl)).1 in
      let u_same = old u l in
      get_or-map (relabel (get_or ls (from f) 0) (get_or ls (to f) 0)) ls u 0 0 (omega (arith, length_labels S))
      ∙ ap (λ x. relabel x (get_or ls (to f) 0) (get_or ls u 0)) p-same
      ∙ ap (λ x. relabel (find from to S (from f)) x (get_or ls u 0)) q-same
      ∙ ap (relabel (find from to S (from f)) (find from to S (to f))) u_same

  pub labelled : (S : List ℕ) (u v : ℕ) → Inside from to n S → u < n → v < n
      → (get_or (labels from to n S) u 0 ≡ get_or (labels from to n S) v 0) ↔ Joined from to S u v
  labelled S u v h lu lv = (
    (λ e. label_joined from to S u v (sym (get_d_labels S u h lu) ∙ e ∙ get_d_labels S v h lv)),
    (λ j. get_d_labels S u h lu ∙ joined_label from to S u v j ∙ sym (get_d_labels S v h lv)),
  )
