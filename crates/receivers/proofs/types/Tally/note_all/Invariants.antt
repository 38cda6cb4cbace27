use Rattle.std.proofs.Common.{◌≡◌, take}
use Rattle.receivers.specs.Tallies.{counts_of, lasts_of}
use Rattle.receivers.proofs.Counting.{Noted}
use Rattle.receivers.proofs.types.Tally.note_all.Given as goal

abbrev pub invariant-loop-link : goal.invariant-loop-link
invariant-loop-link l =
    (l.self.rows ≡ l.initial.self.rows)
    × Noted l.initial.self.rows (counts_of l.initial.self) (take l.link-index l.row) (counts_of l.self) (lasts_of l.self)
