use Rattle.std.proofs.Common.{refl, arith}
use Rattle.receivers.proofs.Counting.{alike}
use Rattle.receivers.proofs.types.Tally.new.Goals as goal

pub invariant_of-result : goal.invariant_of-result
invariant_of-result c = record { all = refl; counted = λ k. omega (arith, alike 512 k); past = λ k. omega (arith, alike 512 k) }
