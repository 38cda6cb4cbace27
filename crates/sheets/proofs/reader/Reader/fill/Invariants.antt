use Rattle.std.proofs.Common.{◌≡◌, ◌+◌, ◌*◌, take}
use Rattle.std.specs.List.{flat_map}
use Rattle.sheets.specs.Layout.{record_of}
use Rattle.sheets.proofs.reader.Reader.fill.Given as goal

-- the links so far have the bytes up to the offset
abbrev pub invariant-loop-link : goal.invariant-loop-link
invariant-loop-link g l =
    let k = g.K.SheetKind in
    (l.self.bytes.now ≡ l.initial.self.bytes.now)
    × (l.self.offset ≡ l.link-index * (2 + k.width))
    × (flat_map (record_of k.bytes) (take l.link-index l.links) ≡ take (l.link-index * (2 + k.width)) l.initial.self.bytes.now)
