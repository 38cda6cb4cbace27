use Rattle.std.proofs.Common.{rules}
use Rattle.cheapest.proofs.Prefixes.{fronts_more}
use Rattle.cheapest.proofs.walk.Walk.choose.Goals as goal
use Rattle.cheapest.specs.Candidates.{start_of, end_of}

pub returns-clause-fronts : goal.returns-clause-fronts
returns-clause-fronts c =
    let list = c.args.list.now in
    let walk = c.args.self.now in
    fronts_more (start_of list) (end_of list) walk.at walk.labels c.args.p c.args.c c.merged.result
    (search rules) (search rules) (search rules) (search rules) c.requires.fronts c.merged.ensures.relabels
