use Rattle.cheapest.proofs.Searches.{Trying}
use Rattle.cheapest.proofs.walk.Walk.next_row.Given as goal
use Rattle.cheapest.specs.Candidates.{start_of, end_of, class_of}

-- no departure from place i on has the wanted classes
abbrev pub invariant-loop-i : goal.invariant-loop-i
invariant-loop-i l = Trying (start_of l.list) (end_of l.list) (class_of l.list) l.list.count l.wanted l.initial.self.at l.self.at l.self.labels l.i

abbrev pub decreases-loop-i : goal.decreases-loop-i
decreases-loop-i l = l.i
