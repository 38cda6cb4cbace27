-- The greedy completion is lowest at every position. Let the candidates rise by a key, and let T be
-- a free list of candidates that rises too. Were the i-th member of T below the i-th pick, then so
-- would be the first i + 1 members of T; but candidates below the i-th pick are spanned by the first
-- i picks, so i + 1 independent members would be spanned by i.
use Rattle.std.proofs.Common.{ℕ, zero, suc, ◌<◌, ◌≤◌, Bool, List, [], ◌∷◌, length, get_or, take, sym, ap, subst, inl, inr, arith}
use Rattle.std.proofs.lemmas.List.{length-take-le}
use Rattle.std.proofs.lemmas.Bool.{cond_both, cases_lt}
use Rattle.forests.specs.Lists.{In, Within, Rising}
use Rattle.forests.specs.Closures.{Closure, Indep, Free, push, picks}
use Rattle.forests.proofs.Members.{in_kept, in_take, in_get_d, length_push}
use Rattle.forests.proofs.Closure.{wider_push, covers_push, free_indep, free_take}
use Rattle.forests.proofs.Steinitz.{steinitz}
use Rattle.forests.proofs.Completion.{picks_longest}

-- in a rising list the first i + 1 members are no higher than the one at i
pub rising_take : (key : ℕ → ℕ) (xs : List ℕ) (i x : ℕ) → Rising key xs → i < length xs → In x (take (suc i) xs) → key x ≤ key (get_or xs i 0)
rising_take key [] i x r h m = absurd m
rising_take key (y ∷ xs) zero x r h (inl e) = omega (arith, ap key e)
rising_take key (y ∷ xs) zero x r h (inr m) = absurd m
rising_take key (y ∷ xs) (suc i) x r h (inl e) = omega (arith, ap key e, r.0 (get_or xs i 0) (in_get_d xs i 0 (omega arith)))
rising_take key (y ∷ xs) (suc i) x r h (inr m) = rising_take key xs i x r.1 (omega arith) m

module _ (Span : List ℕ → ℕ → Type 0) (test : List ℕ → ℕ → Bool) (C : Closure Span test) (key : ℕ → ℕ) where
  -- a candidate below pick i is spanned by the first i picks
  pub below_pick : (S cs : List ℕ) (i x : ℕ) → Rising key cs → In x cs → i < length (picks test S cs)
      → key x < key (get_or (picks test S cs) i 0) → Span (push S (take i (picks test S cs))) x
  below_pick S [] i x r m = absurd m
  below_pick S (c ∷ cs) i x r m =
      cond_both (test S c) (picks test S cs) (c ∷ picks test (c ∷ S) cs)
      (λ xs. i < length xs → key x < key (get_or xs i 0) → Span (push S (take i xs)) x)
      (λ e h k. elim m [
        | inl a ↦ wider_push Span test C S (take i (picks test S cs)) x (subst (λ z. Span S z) (sym a) ((C.dec S c).0 e))
        | inr b ↦ below_pick S cs i x r.1 b h k
      ])
      (λ _. picked (λ j b. below_pick (c ∷ S) cs j x r.1 b) i)
    where
      picked : ((j : ℕ) → In x cs → j < length (picks test (c ∷ S) cs) → key x < key (get_or (picks test (c ∷ S) cs) j 0)
          → Span (push (c ∷ S) (take j (picks test (c ∷ S) cs))) x)
          → (i : ℕ) → i < suc (length (picks test (c ∷ S) cs)) → key x < key (get_or (c ∷ picks test (c ∷ S) cs) i 0)
          → Span (push S (take i (c ∷ picks test (c ∷ S) cs))) x
      picked rest zero h k = absurd (elim m [ inl a ↦ omega (arith, ap key a) | inr b ↦ omega (arith, r.0 x b) ])
      picked rest (suc j) h k = elim m [
        | inl a ↦ C.mem (push (c ∷ S) (take j (picks test (c ∷ S) cs))) x (in_kept x (take j (picks test (c ∷ S) cs)) (c ∷ S) (inl a))
        | inr b ↦ rest j b (omega arith) k
      ]

  pub lowest : (S cs ts : List ℕ) → Rising key cs → Rising key ts → Within ts cs → Indep Span S → Free Span S ts
      → (i : ℕ) → i < length ts → key (get_or (picks test S cs) i 0) ≤ key (get_or ts i 0)
  lowest S cs ts rc rt within ind free i h = elim (cases_lt (key (get_or ts i 0)) (key (get_or (picks test S cs) i 0))) [
    | inl low ↦ absurd (too_many low)
    | inr fine ↦ fine
  ]
    where
      enough : i < length (picks test S cs)
      enough = omega (arith, picks_longest Span test C S cs ts ind free within)

      too_many : key (get_or ts i 0) < key (get_or (picks test S cs) i 0) → ⊥
      too_many low =
          let I = push S (take i (picks test S cs)) in
          let J = push S (take (suc i) ts) in
          omega (
            arith,
            length_push S (take i (picks test S cs)),
            length_push S (take (suc i) ts),
            length-take-le i (picks test S cs) (omega (arith, enough)),
            length-take-le (suc i) ts h,
            steinitz Span test C I J (free_indep Span S (take (suc i) ts) ind (free_take Span S ts (suc i) free))
                (covers_push Span test C S (take (suc i) ts) I
                (λ x m. C.mem I x (in_kept x (take i (picks test S cs)) S m))
                (λ x m. below_pick S cs i x rc (within x (in_take x (suc i) ts m)) enough
                (omega (arith, rising_take key ts i x rt h m)))),
          )

  pub dominance : (S cs ts : List ℕ) → Rising key cs → Rising key ts → Within ts cs → Indep Span S → Free Span S ts
      → (length ts ≤ length (picks test S cs)) × ((i : ℕ) → i < length ts → key (get_or (picks test S cs) i 0) ≤ key (get_or ts i 0))
  dominance S cs ts rc rt within ind free =
      (picks_longest Span test C S cs ts ind free within, lowest S cs ts rc rt within ind free)
