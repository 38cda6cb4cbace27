-- What the weights of each kind here mean.
use Rattle.std.specs.Prelude.{ℕ}
use Rattle.weights.specs.Amounts.{numbers, pairs}
use Rattle.weights.specs.Scales.{Weighing}
use Rattle.weights.specs.declared.crossings.Crossings.{Crossings}
use Rattle.weights.specs.declared.metres.Metres.{Metres}
use Rattle.weights.specs.declared.pairs.Pair.{Pair}

-- a weight that is a plain number has that number for its amount
abbrev pub measured : {M : Type 0} → (M → ℕ) → Weighing M
measured value = record { scale = numbers; amount = value }

abbrev pub by_metres : Weighing Metres
by_metres = measured (λ w. w.0)

abbrev pub by_crossings : Weighing Crossings
by_crossings = measured (λ w. w.0)

-- a pair has the amounts of its two sides, and the first decides
abbrev pub paired : {P Q : Type 0} → Weighing P → Weighing Q → Weighing (Pair P Q)
paired p q = record { scale = pairs p.scale q.scale; amount = λ w. (p.amount w.first, q.amount w.second) }
