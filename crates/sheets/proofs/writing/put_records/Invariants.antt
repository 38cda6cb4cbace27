use Rattle.std.proofs.Common.{◌≡◌, ◌*◌, take}
use Rattle.std.specs.List.{flat_map}
use Rattle.sheets.specs.Layout.{record_of}
use Rattle.sheets.proofs.writing.put_records.Given as goal

-- the records so far stand in the first places
abbrev pub invariant-loop-number : goal.invariant-loop-number
invariant-loop-number g l =
    let k = g.K.SheetKind in
    take (l.number * l.width) l.places ≡ flat_map (record_of k.bytes) (take l.number l.links)
