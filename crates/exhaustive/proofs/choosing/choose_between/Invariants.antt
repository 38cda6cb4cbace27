use Rattle.std.proofs.Common.{◌≡◌, ◌+◌, ◌++◌, map, take}
use Rattle.arrayvec.specs.ArrayVec.{array_vec_len}
use Rattle.exhaustive.specs.Choices.{choice_of, between}
use Rattle.exhaustive.proofs.choosing.choose_between.Given as goal

abbrev pub invariant-loop-metres : goal.invariant-loop-metres
invariant-loop-metres l = record {
  items : map choice_of l.choices.items ≡ map choice_of l.initial.choices.items ++ take l.metres (between l.from l.to);
  count : array_vec_len l.choices ≡ array_vec_len l.initial.choices + l.metres;
}
