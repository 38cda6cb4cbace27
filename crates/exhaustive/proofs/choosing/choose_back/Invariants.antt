use Rattle.std.proofs.Common.{◌≡◌, ◌+◌, ◌*◌, ◌++◌, map}
use Rattle.arrayvec.specs.ArrayVec.{array_vec_len}
use Rattle.exhaustive.specs.Choices.{choice_of, back}
use Rattle.exhaustive.proofs.choosing.choose_back.Given as goal

abbrev pub invariant-loop-from : goal.invariant-loop-from
invariant-loop-from l = record {
  items : map choice_of l.choices.items ≡ map choice_of l.initial.choices.items ++ back l.from l.to;
  count : array_vec_len l.choices ≡ array_vec_len l.initial.choices + 3 * l.from;
}
