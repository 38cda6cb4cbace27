-- What a lawful scale gives: every amount is at most itself, and what is not at most is more.
use Rattle.std.specs.Prelude.{◌≡◌, Bool, true, false, ◌≢◌}
use Rattle.std.proofs.Common.{ap, ◌∙◌, refl, sym, arith}
use Rattle.weights.specs.Scales.{Scale, Lawful}

-- a test that cannot be true is false
pub refuted : (t : Bool) → (t ≢ true) → t ≡ false
refuted true no_way = absurd (no_way refl)
refuted false no_way = refl

module _ (s : Scale) (laws : Lawful s) where
  pub self : (a : s.Amount) → s.le a a ≡ true
  self a = grind (arith, laws.total a a)

  -- equal amounts are at most one another
  pub level : (a b : s.Amount) → a ≡ b → s.le a b ≡ true
  level a b e = ap (s.le a) (sym e) ∙ self a

  -- what is not at most another is at least it
  pub other : (a b : s.Amount) → s.le a b ≡ false → s.le b a ≡ true
  other a b no_way = grind (arith, no_way, laws.total a b)

  -- less and then at most is less
  pub below : (a b c : s.Amount) → s.le b a ≡ false → s.le b c ≡ true → s.le c a ≡ false
  below a b c less more = grind (arith, less, more, laws.trans b c a)

  -- at most and then less is less
  pub under : (a b c : s.Amount) → s.le a b ≡ true → s.le c b ≡ false → s.le c a ≡ false
  under a b c more less = grind (arith, more, less, laws.trans c a b)
