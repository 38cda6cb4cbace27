-- The scale of pairs keeps the laws that its two sides keep.
-- A comparison of pairs is one of three: the first sides are equal and the second decide, or the first are less, or
-- they are more.
use Rattle.std.specs.Prelude.{◌≡◌, Bool, true, false, ◌⊎◌}
use Rattle.std.proofs.Common.{ap, ◌∙◌, inl, inr, arith}
use Rattle.std.proofs.lemmas.Bool.{cases_Bool}
use Rattle.weights.specs.Scales.{Scale, Lawful}
use Rattle.weights.specs.Amounts.{pairs}

-- pairs with equal sides are equal
both_sides : {A B : Type 0} (a b : A × B) → a.0 ≡ b.0 → a.1 ≡ b.1 → a ≡ b
both_sides a b e f = ap (λ x. (x, a.1)) e ∙ ap (λ y. (b.0, y)) f

module _ (s t : Scale) (S : Lawful s) (T : Lawful t) where
  abbrev le : (pairs s t).Amount → (pairs s t).Amount → Bool
  le a b = (pairs s t).le a b

  total : (a b : (pairs s t).Amount) → (le a b ≡ true) ⊎ (le b a ≡ true)
  total a b = grind (arith, S.total a.0 b.0, T.total a.1 b.1)

  antisym : (a b : (pairs s t).Amount) → le a b ≡ true → le b a ≡ true → a ≡ b
  antisym a b h k =
      let x : (s.le a.0 b.0 ≡ true) × (s.le b.0 a.0 ≡ true) = grind (arith, h, k) in
      let y : (t.le a.1 b.1 ≡ true) × (t.le b.1 a.1 ≡ true) = grind (arith, h, k, x) in
      both_sides a b (S.antisym a.0 b.0 x.0 x.1) (T.antisym a.1 b.1 y.0 y.1)

  trans : (a b c : (pairs s t).Amount) → le a b ≡ true → le b c ≡ true → le a c ≡ true
  trans a b c h k =
      let p : s.le a.0 b.0 ≡ true = grind (arith, h) in
      let q : s.le b.0 c.0 ≡ true = grind (arith, k) in
      let on = S.trans a.0 b.0 c.0 p q in
      elim (cases_Bool (s.le c.0 a.0)) [
        | inl e ↦
            let back = S.trans b.0 c.0 a.0 q e in
            let again = S.trans c.0 a.0 b.0 e p in
            grind (arith, h, k, on, e, back, again, T.trans a.1 b.1 c.1)
        | inr e ↦ grind (arith, on, e)
      ]

  strict : (a b c : (pairs s t).Amount) → le b a ≡ false → le ((pairs s t).add b c) ((pairs s t).add a c) ≡ false
  strict a b c h = grind (arith, h, S.antisym a.0 b.0, S.strict a.0 b.0 c.0, T.strict a.1 b.1 c.1)

  pub pairs_lawful : Lawful (pairs s t)
  pairs_lawful = record {
    total = total;
    antisym = antisym;
    trans = trans;
    unit = λ a. both_sides _ _ (S.unit a.0) (T.unit a.1);
    comm = λ a b. both_sides _ _ (S.comm a.0 b.0) (T.comm a.1 b.1);
    assoc = λ a b c. both_sides _ _ (S.assoc a.0 b.0 c.0) (T.assoc a.1 b.1 c.1);
    strict = strict;
  }
