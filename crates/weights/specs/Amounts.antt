-- The two scales that weights are measured on: natural numbers, and pairs of amounts.
use Rattle.std.specs.Prelude.{ℕ, Bool, ◌+◌, cond, ◌&&◌, nat_le}
use Rattle.weights.specs.Scales.{Scale}

-- numbers, by size
abbrev pub numbers : Scale
numbers = record { Amount = ℕ; zero = 0; add = λ a b. a + b; le = λ a b. nat_le a b }

-- a comparison of pairs from its parts: the first sides one way and the other way, and the second sides
abbrev pub lexed : Bool → Bool → Bool → Bool
lexed p q r = cond (p && q) r p

-- pairs: the first sides decide, the second sides decide where the first are equal, and sides add side by side
abbrev pub pairs : Scale → Scale → Scale
pairs s t = record {
  Amount = s.Amount × t.Amount;
  zero = (s.zero, t.zero);
  add = λ a b. (s.add a.0 b.0, t.add a.1 b.1);
  le = λ a b. lexed (s.le a.0 b.0) (s.le b.0 a.0) (t.le a.1 b.1);
}
