use Rattle.std.proofs.Common.{◌≡◌, ◌-◌, ◌*◌, map}
use Rattle.arrayvec.specs.ArrayVec.{array_vec_len}
use Rattle.exhaustive.specs.Choices.{choice_of, choices_of}
use Rattle.exhaustive.proofs.choosing.choices.Given as goal

abbrev pub invariant-loop-to : goal.invariant-loop-to
invariant-loop-to l = record {
  items : map choice_of l.choices.items ≡ choices_of l.to;
  count : 2 * array_vec_len l.choices ≡ 3 * (l.to * (l.to - 1));
}
