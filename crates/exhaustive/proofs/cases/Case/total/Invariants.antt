use Rattle.std.proofs.Common.{◌*◌, ◌≤◌}
use Rattle.exhaustive.proofs.cases.Case.total.Given as goal

abbrev pub invariant-loop-link : goal.invariant-loop-link
invariant-loop-link l = l.total ≤ l.link-index * 255
