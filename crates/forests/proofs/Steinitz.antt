-- An independent list is no longer than a list that covers it. Members of the covering list I give
-- way one by one to members of the independent list J: each new member x of J is spanned, yet not
-- by the members of J before it, so exchange finds a member of I that x can stand for. What is left
-- of I in the end, with J, is as long as I was.
use Rattle.std.proofs.Common.{◌≡◌, ℕ, ◌+◌, ◌≤◌, Bool, List, [], ◌∷◌, ◌++◌, length, sym, refl, subst, inl, inr, arith}
use Rattle.forests.specs.Lists.{Within}
use Rattle.forests.specs.Closures.{Closure, Covers, Indep}
use Rattle.forests.proofs.Members.{in_left, in_right, in_either}
use Rattle.forests.proofs.Closure.{wider}

module _ (Span : List ℕ → ℕ → Type 0) (test : List ℕ → ℕ → Bool) (C : Closure Span test) where
  -- x, spanned with the help of I, stands for one member of I
  pub replace_one : (I B : List ℕ) (x : ℕ) → Span (I ++ B) x → (Span B x → ⊥)
      → (I' : List ℕ) × (length I' + 1 ≡ length I) × Covers Span (I' ++ (x ∷ B)) I
  replace_one [] B x h n = absurd (n h)
  replace_one (y ∷ I) B x h n = elim (C.exchange (I ++ B) x y h) [
    | inl s ↦
        let r = replace_one I B x s n in (
          y ∷ r.0,
          omega (arith, r.1),
          λ z m. elim m [
            | inl e ↦ C.mem (y ∷ (r.0 ++ (x ∷ B))) z (inl e)
            | inr k ↦ wider Span test C (r.0 ++ (x ∷ B)) (y ∷ (r.0 ++ (x ∷ B))) z (λ _ a. inr a) (r.2 z k)
          ],
        )
    | inr s ↦
        let all = I ++ (x ∷ B) in (
          I,
          omega arith,
          λ z m. elim m [
            | inl e ↦ subst (λ t. Span all t) (sym e) (wider Span test C (x ∷ (I ++ B)) all y (gather I B x) s)
            | inr k ↦ C.mem all z (in_left z I (x ∷ B) k)
          ],
        )
  ]
    where
      gather : (I B : List ℕ) (x : ℕ) → Within (x ∷ (I ++ B)) (I ++ (x ∷ B))
      gather I B x z (inl e) = in_right z I (x ∷ B) (inl e)
      gather I B x z (inr h) = elim (in_either z I B h) [ inl a ↦ in_left z I (x ∷ B) a | inr b ↦ in_right z I (x ∷ B) (inr b) ]

  -- all of J stands for as many members of I
  pub replace_all : (I J : List ℕ) → Indep Span J → Covers Span I J
      → (I' : List ℕ) × (length I' + length J ≡ length I) × Covers Span (I' ++ J) I
  replace_all I [] i c = (I, omega arith, λ x m. C.mem (I ++ []) x (in_left x I [] m))
  replace_all I (x ∷ J) i c =
      let a = replace_all I J i.1 (λ y m. c y (inr m)) in
      let b = replace_one a.0 J x (C.trans I (a.0 ++ J) x a.2 (c x (inl refl))) i.0 in
      let all = b.0 ++ (x ∷ J) in (
        b.0,
        omega (arith, a.1, b.1),
        λ y m. C.trans (a.0 ++ J) all y (λ z k. elim (in_either z a.0 J k) [
          | inl p ↦ b.2 z p
          | inr q ↦ C.mem all z (in_right z b.0 (x ∷ J) (inr q))
        ]) (a.2 y m),
      )

  pub steinitz : (I J : List ℕ) → Indep Span J → Covers Span I J → length J ≤ length I
  steinitz I J i c = omega (arith, (replace_all I J i c).1)
