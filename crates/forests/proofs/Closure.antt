-- What follows from the laws of spanning alone. More spans more (`wider`); what is free over S
-- stays independent when it is put upon S (`free_indep`), and so does a front part of it. These
-- are the small steps that Steinitz, completion and dominance share.
use Rattle.std.proofs.Common.{ℕ, zero, suc, Bool, List, [], ◌∷◌, ◌++◌, take, refl, subst, inl, inr}
use Rattle.forests.specs.Lists.{In, Within, Different}
use Rattle.forests.specs.Closures.{Closure, Covers, Indep, Free, push}
use Rattle.forests.proofs.Members.{in_kept, in_parts}

module _ (Span : List ℕ → ℕ → Type 0) (test : List ℕ → ℕ → Bool) (C : Closure Span test) where
  -- a list with more members spans no less
  pub wider : (S S' : List ℕ) (e : ℕ) → Within S S' → Span S e → Span S' e
  wider S S' e within h = C.trans S S' e (λ x m. C.mem S' x (within x m)) h

  pub wider_push : (S xs : List ℕ) (e : ℕ) → Span S e → Span (push S xs) e
  wider_push S xs e h = wider S (push S xs) e (λ x m. in_kept x xs S m) h

  pub covers_trans : (S S' xs : List ℕ) → Covers Span S' S → Covers Span S xs → Covers Span S' xs
  covers_trans S S' xs h k x m = C.trans S S' x h (k x m)

  pub covers_push : (S xs S' : List ℕ) → Covers Span S' S → Covers Span S' xs → Covers Span S' (push S xs)
  covers_push S xs S' h k x m = elim (in_parts x xs S m) [ inl a ↦ k x a | inr b ↦ h x b ]

  -- an independent list repeats nothing
  pub indep_different : (S : List ℕ) → Indep Span S → Different S
  indep_different [] h = tt
  indep_different (x ∷ S) h = (λ m. h.0 (C.mem S x m), indep_different S h.1)

  -- nor does a free list, and it has nothing of what it is put upon
  pub free_new : (S xs : List ℕ) (x : ℕ) → Free Span S xs → In x S → In x xs → ⊥
  free_new S [] x f m k = k
  free_new S (y ∷ xs) x f m (inl e) = f.0 (C.mem S y (subst (λ z. In z S) e m))
  free_new S (y ∷ xs) x f m (inr k) = free_new (y ∷ S) xs x f.1 (inr m) k

  pub free_different : (S xs : List ℕ) → Free Span S xs → Different xs
  free_different S [] f = tt
  free_different S (x ∷ xs) f = (λ m. free_new (x ∷ S) xs x f.1 (inl refl) m, free_different (x ∷ S) xs f.1)

pub free_indep : (Span : List ℕ → ℕ → Type 0) (S xs : List ℕ) → Indep Span S → Free Span S xs → Indep Span (push S xs)
free_indep Span S [] i f = i
free_indep Span S (x ∷ xs) i f = free_indep Span (x ∷ S) xs (f.0, i) f.1

pub indep_free : (Span : List ℕ → ℕ → Type 0) (S xs : List ℕ) → Indep Span (push S xs) → Indep Span S × Free Span S xs
indep_free Span S [] i = (i, tt)
indep_free Span S (x ∷ xs) i = let h = indep_free Span (x ∷ S) xs i in (h.0.1, (h.0.0, h.1))

pub free_take : (Span : List ℕ → ℕ → Type 0) (S xs : List ℕ) (n : ℕ) → Free Span S xs → Free Span S (take n xs)
free_take Span S xs zero f = tt
free_take Span S [] (suc n) f = tt
free_take Span S (x ∷ xs) (suc n) f = (f.0, free_take Span (x ∷ S) xs n f.1)

-- what is free in two parts
pub free_append : (Span : List ℕ → ℕ → Type 0) (S xs ys : List ℕ) → Free Span S xs → Free Span (push S xs) ys → Free Span S (xs ++ ys)
free_append Span S [] ys f h = h
free_append Span S (x ∷ xs) ys f h = (f.0, free_append Span (x ∷ S) xs ys f.1 h)

pub free_rest : (Span : List ℕ → ℕ → Type 0) (S xs ys : List ℕ) → Free Span S (xs ++ ys) → Free Span (push S xs) ys
free_rest Span S [] ys f = f
free_rest Span S (x ∷ xs) ys f = free_rest Span (x ∷ S) xs ys f.1
