-- Counting the members of a list is counting its places.
use Rattle.std.proofs.Common.{◌≡◌, ℕ, zero, suc, ◌+◌, ◌<◌, ◌≤◌, Bool, cond, List, length, get_or, take, sym, refl, ap, ◌∙◌, inl, inr, add-one, arith}
use Rattle.std.specs.List.{count_by}
use Rattle.std.proofs.lemmas.List.{take_all}
use Rattle.std.proofs.lemmas.List.Sums.{count_by_more_yes, count_by_more_no}
use Rattle.std.proofs.lemmas.Bool.{cases_Bool}
use Rattle.forests.specs.Counts.{count}

module _ {X : Type 0} (q : X → Bool) (p : ℕ → Bool) (d : X) (xs : List X) (same : (x : ℕ) → x < length xs → p x ≡ q (get_or xs x d)) where
  counted_to : (i : ℕ) → i ≤ length xs → count_by q (take i xs) ≡ count p i
  counted_to zero l = refl
  counted_to (suc i) l =
      let before = counted_to i (omega arith) in
      let here : i < length xs = omega arith in
      let next : count_by q (take (suc i) xs) ≡ count_by q (take (i + 1) xs) = ap (λ n. count_by q (take n xs)) (sym (add-one i)) in
      elim (cases_Bool (p i)) [
        | inl t ↦
            let e : count p (suc i) ≡ 1 + count p i = ap (λ b. cond b 1 0 + count p i) t in
            omega (arith, next, e, before, count_by_more_yes q xs i d here (sym (same i here) ∙ t))
        | inr f ↦
            let e : count p (suc i) ≡ 0 + count p i = ap (λ b. cond b 1 0 + count p i) f in
            omega (arith, next, e, before, count_by_more_no q xs i d here (sym (same i here) ∙ f))
      ]

  pub counted_places : count_by q xs ≡ count p (length xs)
  counted_places = ap (count_by q) (sym (take_all (length xs) xs (omega arith))) ∙ counted_to (length xs) (omega arith)
