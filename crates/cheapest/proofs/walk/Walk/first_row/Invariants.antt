use Rattle.std.proofs.Common.{take}
use Rattle.cheapest.proofs.Filling.{Filling}
use Rattle.cheapest.proofs.walk.Walk.first_row.Given as goal
use Rattle.cheapest.specs.Candidates.{start_of, end_of}

abbrev pub invariant-loop-c : goal.invariant-loop-c
invariant-loop-c l = Filling (start_of l.list) (end_of l.list) l.list.count (take l.initial.p l.initial.self.at) l.self.at l.self.labels l.p l.c
