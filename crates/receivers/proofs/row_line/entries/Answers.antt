use Rattle.std.proofs.Common.{◌≡◌, ◌++◌, ap, ◌∙◌, arith}
use Rattle.texts.specs.Lines.{line_bytes}
use Rattle.receivers.specs.Writing.{entries_of}
use Rattle.receivers.proofs.Lines.{entries_short}
use Rattle.receivers.proofs.row_line.entries.Goals as goal

pub put_entries-requires : goal.put_entries-requires
put_entries-requires c =
    let row = c.args.row.now in
    let short = entries_short row (c.requires, λ i. omega (arith, c.type_inv.row i)) in
    rw c.new-line.ensures (omega arith)

pub returns : goal.returns
returns c =
    let row = c.args.row.now in
    let short = entries_short row (c.requires, λ i. omega (arith, c.type_inv.row i)) in
    let entries : line_bytes c.put_entries.new.line ≡ entries_of row = c.put_entries.ensures ∙ ap (λ xs. xs ++ entries_of row) c.new-line.ensures in
    record { bytes = entries; room = rw entries (omega arith) }
