-- What the digits of a number hold.
use Rattle.std.specs.Prelude.{ℕ, List, drop}
use Rattle.texts.specs.declared.types.Digits.{Digits}

-- the digits as bytes, the first one first
abbrev pub digits_of : Digits → List ℕ
digits_of d = drop d.start d.places
