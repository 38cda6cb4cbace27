use Rattle.std.proofs.Common.{rules, arith}
use Rattle.cheapest.proofs.Filling.{picks_short}
use Rattle.cheapest.proofs.Listed.{ends_fit}
use Rattle.cheapest.proofs.walk.Walk.to_first.Goals as goal
use Rattle.cheapest.specs.Candidates.{start_of, end_of}

pub first_row-size-requires-clause-short : goal.first_row-size-requires-clause-short
first_row-size-requires-clause-short c = let list = c.args.list.now in picks_short (start_of list) (end_of list) list.count (ends_fit list)

pub returns-clause-links : goal.returns-clause-links
returns-clause-links c = λ j l. let h = c.read_row.ensures.writes j (omega arith, l) in search rules
