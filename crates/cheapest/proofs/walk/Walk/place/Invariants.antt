use Rattle.cheapest.proofs.Searches.{Matching}
use Rattle.cheapest.proofs.walk.Walk.place.Given as goal
use Rattle.cheapest.specs.Candidates.{start_of, end_of, number_of}

-- what the test says from the start is what it says from here
abbrev pub invariant-loop-c : goal.invariant-loop-c
invariant-loop-c l = Matching (start_of l.list) (end_of l.list) (number_of l.list) l.list.count l.numbers l.self.at l.self.labels l.p l.c
