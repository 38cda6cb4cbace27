use Rattle.std.proofs.Common.{take}
use Rattle.cheapest.proofs.Reopened.{Reopening}
use Rattle.networks.specs.Links.{open_below}
use Rattle.networks.proofs.trials.reopened.Given as goal

-- the links so far
abbrev pub invariant-loop-number : goal.invariant-loop-number
invariant-loop-number l = Reopening (take l.plan.count l.plan.links) l.link-items (open_below l.closed l.plan.count) l.number
