-- An array that is filled place by place from a function. Assumes nothing.
use Rattle.std.proofs.Common.{◌≡◌, ℕ, zero, suc, ◌+◌, ◌<◌, ◌≤◌, cond, ltb, List, length, get_or, set, replicate, sym, refl, ap, ◌∙◌, ⊎_elim, arith}
use Rattle.std.proofs.lemmas.List.{get_or-set_same, get_or-set_other}
use Rattle.std.proofs.lemmas.Bool.{cases_eq, cases_lt, cond-true, cond-false, lt-ltb, le-ltb}

module _ {X : Type 0} (d : X) where
  alike : (n e : ℕ) → get_or (replicate n d) e d ≡ d
  alike zero e = refl
  alike (suc n) zero = refl
  alike (suc n) (suc e) = alike n e

  module _ (f : ℕ → X) where
    -- the first i places have what the function says, and the others nothing yet
    abbrev pub FilledTo : List X → ℕ → Type 0
    FilledTo xs i = (e : ℕ) → get_or xs e d ≡ cond (ltb e i) (f e) d

    pub filled_none : (n : ℕ) → FilledTo (replicate n d) 0
    filled_none n e = alike n e ∙ sym (cond-false (ltb e 0) (f e) d (le-ltb e 0 (omega arith)))

    pub filled_more : (xs : List X) (i : ℕ) (v : X) → i < length xs → v ≡ f i → FilledTo xs i → FilledTo (set xs i v) (i + 1)
    filled_more xs i v l is before e =
        ⊎_elim
        (λ same. ap (λ k. get_or (set xs i v) k d) same ∙ get_or-set_same xs i v d l ∙ is ∙ ap f (sym same)
        ∙ sym (cond-true (ltb e (i + 1)) (f e) d (lt-ltb e (i + 1) (omega arith))))
        (λ other. get_or-set_other xs i e v d other ∙ before e
        ∙ ⊎_elim
        (λ less. cond-true (ltb e i) (f e) d (lt-ltb e i less) ∙ sym (cond-true (ltb e (i + 1)) (f e) d (lt-ltb e (i + 1) (omega arith))))
        (λ more. cond-false (ltb e i) (f e) d (le-ltb e i more) ∙ sym (cond-false (ltb e (i + 1)) (f e) d (le-ltb e (i + 1) (omega arith))))
        (cases_lt e i))
        (cases_eq e i)

    pub filled_here : (xs : List X) (i e : ℕ) → FilledTo xs i → e < i → get_or xs e d ≡ f e
    filled_here xs i e all l = all e ∙ cond-true (ltb e i) (f e) d (lt-ltb e i l)

    pub filled_past : (xs : List X) (i e : ℕ) → FilledTo xs i → i ≤ e → get_or xs e d ≡ d
    filled_past xs i e all m = all e ∙ cond-false (ltb e i) (f e) d (le-ltb e i m)
