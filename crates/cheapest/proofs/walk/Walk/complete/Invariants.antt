use Rattle.cheapest.proofs.Growth.{Growing}
use Rattle.cheapest.proofs.walk.Walk.complete.Given as goal
use Rattle.cheapest.specs.Candidates.{start_of, end_of, class_of}

-- what is completed from the start is what is completed from here
abbrev pub invariant-loop-c : goal.invariant-loop-c
invariant-loop-c l = Growing (start_of l.list) (end_of l.list) (class_of l.list) l.list.count l.wanted l.initial.self.at l.i l.first l.self.at l.self.labels l.p l.c
