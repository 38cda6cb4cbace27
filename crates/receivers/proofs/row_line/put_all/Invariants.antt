use Rattle.std.proofs.Common.{◌≡◌, ◌++◌, drop}
use Rattle.texts.specs.Lines.{line_bytes}
use Rattle.receivers.specs.Writing.{spaced}
use Rattle.receivers.proofs.row_line.put_all.Given as goal

-- what is written, with the entries to come, is the whole
abbrev pub invariant-loop-n : goal.invariant-loop-n
invariant-loop-n l = line_bytes l.line ++ spaced (drop l.n-index l.row) ≡ line_bytes l.initial.line ++ spaced l.row
