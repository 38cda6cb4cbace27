-- The greedy completion. What it picks is free over S, since each pick passed the test; and S with
-- the picks spans every candidate, since a candidate that was passed over was spanned already. So it
-- is a longest free list of candidates, and a list of candidates that is itself free is picked whole.
use Rattle.std.proofs.Common.{◌≡◌, ℕ, suc, ◌+◌, ◌≤◌, Bool, List, [], ◌∷◌, reverse, length, sym, refl, ap, subst, inl, inr, arith}
use Rattle.std.proofs.lemmas.List.{reverse-reverse}
use Rattle.std.proofs.lemmas.Bool.{cond_both, both_ways}
use Rattle.forests.specs.Lists.{In, Within, Ordered}
use Rattle.forests.specs.Closures.{Closure, Covers, Indep, Free, push, picks}
use Rattle.forests.proofs.Members.{in_kept, in_turned, in_parts, length_push}
use Rattle.forests.proofs.Closure.{wider_push, covers_push, free_indep, indep_free}
use Rattle.forests.proofs.Steinitz.{steinitz}

-- picks are candidates
pub picks_within : (test : List ℕ → ℕ → Bool) (S cs : List ℕ) → Within (picks test S cs) cs
picks_within test S [] x = λ h. h
picks_within test S (c ∷ cs) x =
    cond_both (test S c) (picks test S cs) (c ∷ picks test (c ∷ S) cs) (λ xs. In x xs → In x (c ∷ cs))
    (λ _ h. inr (picks_within test S cs x h))
    (λ _ h. elim h [ inl e ↦ inl e | inr k ↦ inr (picks_within test (c ∷ S) cs x k) ])

-- and stand in the candidates' order, whatever that is
pub picks_ordered : (R : ℕ → ℕ → Type 0) (test : List ℕ → ℕ → Bool) (S cs : List ℕ) → Ordered R cs → Ordered R (picks test S cs)
picks_ordered R test S [] o = tt
picks_ordered R test S (c ∷ cs) o =
    cond_both (test S c) (picks test S cs) (c ∷ picks test (c ∷ S) cs) (Ordered R)
    (λ _. picks_ordered R test S cs o.1)
    (λ _. (λ y h. o.0 y (picks_within test (c ∷ S) cs y h), picks_ordered R test (c ∷ S) cs o.1))

pub picks_no_longer : (test : List ℕ → ℕ → Bool) (S cs : List ℕ) → length (picks test S cs) ≤ length cs
picks_no_longer test S [] = omega arith
picks_no_longer test S (c ∷ cs) =
    cond_both (test S c) (picks test S cs) (c ∷ picks test (c ∷ S) cs) (λ xs. length xs ≤ suc (length cs))
    (λ _. omega (arith, picks_no_longer test S cs))
    (λ _. omega (arith, picks_no_longer test (c ∷ S) cs))

-- where nothing was passed over, the candidates are the picks
pub picks_all : (test : List ℕ → ℕ → Bool) (S cs : List ℕ) → length cs ≤ length (picks test S cs) → picks test S cs ≡ cs
picks_all test S [] = λ _. refl
picks_all test S (c ∷ cs) =
    cond_both (test S c) (picks test S cs) (c ∷ picks test (c ∷ S) cs) (λ xs. suc (length cs) ≤ length xs → xs ≡ c ∷ cs)
    (λ _ h. absurd (omega (arith, picks_no_longer test S cs)))
    (λ _ h. ap (λ xs. c ∷ xs) (picks_all test (c ∷ S) cs (omega arith)))

module _ (Span : List ℕ → ℕ → Type 0) (test : List ℕ → ℕ → Bool) (C : Closure Span test) where
  pub picks_free : (S cs : List ℕ) → Free Span S (picks test S cs)
  picks_free S [] = tt
  picks_free S (c ∷ cs) =
      cond_both (test S c) (picks test S cs) (c ∷ picks test (c ∷ S) cs) (Free Span S)
      (λ _. picks_free S cs)
      (λ e. (λ s. both_ways (test S c) e ((C.dec S c).1 s), picks_free (c ∷ S) cs))

  pub picks_indep : (S cs : List ℕ) → Indep Span S → Indep Span (push S (picks test S cs))
  picks_indep S cs i = free_indep Span S (picks test S cs) i (picks_free S cs)

  pub picks_cover : (S cs : List ℕ) → Covers Span (push S (picks test S cs)) cs
  picks_cover S [] x = λ h. absurd h
  picks_cover S (c ∷ cs) x =
      cond_both (test S c) (picks test S cs) (c ∷ picks test (c ∷ S) cs) (λ xs. In x (c ∷ cs) → Span (push S xs) x)
      (λ e h. elim h [
        | inl k ↦ wider_push Span test C S (picks test S cs) x (subst (λ z. Span S z) (sym k) ((C.dec S c).0 e))
        | inr k ↦ picks_cover S cs x k
      ])
      (λ e h. elim h [
        | inl k ↦ C.mem (push (c ∷ S) (picks test (c ∷ S) cs)) x (in_kept x (picks test (c ∷ S) cs) (c ∷ S) (inl k))
        | inr k ↦ picks_cover (c ∷ S) cs x k
      ])

  pub picks_cover_old : (S cs : List ℕ) → Covers Span (push S (picks test S cs)) S
  picks_cover_old S cs x h = C.mem (push S (picks test S cs)) x (in_kept x (picks test S cs) S h)

  -- no free list of candidates is longer
  pub picks_longest : (S cs xs : List ℕ) → Indep Span S → Free Span S xs → Within xs cs → length xs ≤ length (picks test S cs)
  picks_longest S cs xs i f within =
      let all = push S (picks test S cs) in
      omega (
        arith,
        length_push S xs,
        length_push S (picks test S cs),
        steinitz Span test C all (push S xs) (free_indep Span S xs i f)
            (covers_push Span test C S xs all (picks_cover_old S cs) (λ x h. picks_cover S cs x (within x h))),
      )

  -- what is free in one order is free in any other
  pub free_any_order : (S xs ys : List ℕ) → Indep Span S → Free Span S xs → Within xs ys → length ys ≤ length xs → Free Span S ys
  free_any_order S xs ys i f within short =
      subst (λ zs. Free Span S zs) (picks_all test S ys (omega (arith, picks_longest S ys xs i f within))) (picks_free S ys)

  -- a list that is free over nothing is independent, read from either end
  pub free_is_indep : (xs : List ℕ) → Free Span [] xs → Indep Span xs
  free_is_indep xs f =
      subst (λ zs. Indep Span zs) (reverse-reverse xs)
      (free_indep Span [] (reverse xs) tt
      (free_any_order [] xs (reverse xs) tt f (λ x m. in_turned x xs [] m) (omega (arith, length_push [] xs))))

  pub indep_is_free : (xs : List ℕ) → Indep Span xs → Free Span [] xs
  indep_is_free xs i =
      let turned : Indep Span (push [] (reverse xs)) = subst (λ zs. Indep Span zs) (sym (reverse-reverse xs)) i in
      free_any_order [] (reverse xs) xs tt (indep_free Span [] (reverse xs) turned).1
      (λ x m. elim (in_parts x xs [] m) [ inl a ↦ a | inr b ↦ absurd b ]) (omega (arith, length_push [] xs))

  -- what is chosen beforehand takes as many places as it has members
  pub picks_upon : (F cs : List ℕ) → Indep Span F → Within F cs → length (picks test F cs) + length F ≡ length (picks test [] cs)
  picks_upon F cs i within =
      let mine = push F (picks test F cs) in
      let all = push [] (picks test [] cs) in
      let few = steinitz Span test C all mine (picks_indep F cs i)
      (covers_push Span test C F (picks test F cs) all (λ x m. picks_cover [] cs x (within x m)) (λ x m. picks_cover [] cs x (picks_within test F cs x m))) in
      let many = steinitz Span test C mine all (picks_indep [] cs tt)
      (covers_push Span test C [] (picks test [] cs) mine (λ x m. absurd m) (λ x m. picks_cover F cs x (picks_within test [] cs x m))) in
      omega (arith, few, many, length_push F (picks test F cs), length_push [] (picks test [] cs))
