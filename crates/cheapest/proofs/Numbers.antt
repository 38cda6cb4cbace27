-- The natural numbers are a lawful scale, so that everything shown for lawful scales holds for marks.
use Rattle.std.proofs.Common.{◌+◌, inl, inr, arith}
use Rattle.std.proofs.lemmas.Bool.{leb-true, leb-false, le-leb, lt-leb, cases_lt}
use Rattle.weights.specs.Scales.{Lawful}
use Rattle.weights.specs.Amounts.{numbers}

pub numbers_lawful : Lawful numbers
numbers_lawful = record {
  total = λ a b. elim (cases_lt a b) [ inl l ↦ inl (le-leb a b (omega arith)) | inr l ↦ inr (le-leb b a l) ];
  antisym = λ a b h k. omega (arith, leb-true a b h, leb-true b a k);
  trans = λ a b c h k. le-leb a c (omega (arith, leb-true a b h, leb-true b c k));
  unit = λ a. omega arith;
  comm = λ a b. omega arith;
  assoc = λ a b c. omega arith;
  strict = λ a b c h. lt-leb (b + c) (a + c) (omega (arith, leb-false b a h));
}
