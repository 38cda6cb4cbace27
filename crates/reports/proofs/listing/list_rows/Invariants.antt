use Rattle.std.proofs.Common.{◌-◌, ◌≤◌}
use Rattle.reports.proofs.Listed.{Gone}
use Rattle.reports.proofs.listing.list_rows.Given as goal

abbrev pub invariant-loop-letter : goal.invariant-loop-letter
invariant-loop-letter g l =
    Gone g.K.WeightKind.weighing l.initial.walk l.walk g.S.Sink.took l.initial.out l.out l.count × (l.count ≤ l.limit)

abbrev pub decreases-loop-letter : goal.decreases-loop-letter
decreases-loop-letter g l = l.limit - l.count
