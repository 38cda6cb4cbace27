-- Prefixes of a row and their labels. One more candidate at the end of a prefix is one more at the front
-- of the list in which the newest comes first, and its labels are the old ones with two made one.
use Rattle.std.proofs.Common.{◌≡◌, ℕ, ◌+◌, ◌<◌, List, [], ◌∷◌, ◌++◌, length, get_or, take, set, sym, refl, ap, ◌∙◌, inl, inr, arith}
use Rattle.std.proofs.lemmas.List.{get_or-set_same, get_or-set_other, take_more_set, take-set-le}
use Rattle.std.proofs.lemmas.Bool.{cases_eq}
use Rattle.forests.specs.Closures.{push}
use Rattle.forests.specs.Labels.{relabel, find}
use Rattle.cheapest.specs.Scans.{Fronts}

pub push_more : (S xs : List ℕ) (x : ℕ) → push S (xs ++ (x ∷ [])) ≡ x ∷ push S xs
push_more S [] x = refl
push_more S (y ∷ xs) x = push_more (y ∷ S) xs x

pub push_set : (row : List ℕ) (p c : ℕ) → p < length row → push [] (take (p + 1) (set row p c)) ≡ c ∷ push [] (take p row)
push_set row p c l = ap (push []) (take_more_set row p c l) ∙ push_more [] (take p row) c

module _ (start end : ℕ → ℕ) (row : List ℕ) (stack : List (List ℕ)) (p c : ℕ) (made : List ℕ) where
  pub fronts_more : p < length row → p + 1 < length stack → start c < 64 → end c < 64 → Fronts start end row stack p
      → ((u : ℕ) → u < 64 → get_or made u 0 ≡ relabel (get_or (get_or stack p []) (start c) 0) (get_or (get_or stack p []) (end c) 0) (get_or (get_or stack p []) u 0))
      → Fronts start end (set row p c) (set stack (p + 1) made) (p + 1)
  fronts_more lp ls la lb fronts new j u h =
      let label : List ℕ → ℕ → ℕ = find start end in
      let S = push [] (take p row) in
      elim (cases_eq j (p + 1)) [
        | inl e ↦
            ap (λ k. get_or (get_or (set stack (p + 1) made) k []) u 0) e
            ∙ ap (λ xs. get_or xs u 0) (get_or-set_same stack (p + 1) made [] ls)
            ∙ new u h.1
            ∙ ap (λ x. relabel x (get_or (get_or stack p []) (end c) 0) (get_or (get_or stack p []) u 0)) (fronts p (start c) (omega arith, la))
            ∙ ap (λ x. relabel (label S (start c)) x (get_or (get_or stack p []) u 0)) (fronts p (end c) (omega arith, lb))
            ∙ ap (relabel (label S (start c)) (label S (end c))) (fronts p u (omega arith, h.1))
            ∙ ap (λ T. label T u) (sym (push_set row p c lp))
            ∙ ap (λ k. label (push [] (take k (set row p c))) u) (sym e)
        | inr ne ↦
            ap (λ xs. get_or xs u 0) (get_or-set_other stack (p + 1) j made [] ne)
            ∙ fronts j u (omega (arith, h.0), h.1)
            ∙ ap (λ xs. label (push [] xs) u) (sym (take-set-le j row p c (omega (arith, h.0))))
      ]
