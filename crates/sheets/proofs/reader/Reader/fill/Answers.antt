use Rattle.std.proofs.Common.{◌≡◌, ◌+◌, ◌*◌, ◌≤◌, length, take, drop, sym, ap, ◌∙◌, arith}
use Rattle.std.specs.List.{flat_map}
use Rattle.std.proofs.lemmas.List.{take_all}
use Rattle.sheets.specs.Layout.{record_of}
use Rattle.sheets.proofs.Records.{joined_step, room_left, times_more}
use Rattle.sheets.proofs.reader.Reader.fill.Goals as goal

pub record-requires : goal.record-requires
record-requires g c =
    let r = 2 + g.K.SheetKind.width in
    let i = c.loop-link.link-index in
    let left = room_left i (length c.args.links.now) r (omega arith) in
    let same : length c.loop-link.self.bytes.now ≡ length c.args.self.now.bytes.now = ap length c.loop-link.invariant.0 in
    let offset = c.loop-link.invariant.1 in
    let all = c.requires.1 in
    omega arith

pub loop-link-preserved : goal.loop-link-preserved
loop-link-preserved g c =
    let k = g.K.SheetKind in
    let r = 2 + k.width in
    let i = c.loop-link.link-index in
    let bytes = c.args.self.now.bytes.now in
    let same : c.loop-link.self.bytes.now ≡ bytes = c.loop-link.invariant.0 in
    let offset : c.loop-link.self.offset ≡ i * r = c.loop-link.invariant.1 in
    let one : record_of k.bytes c.record.result ≡ take r (drop (i * r) bytes) =
    c.record.ensures.value ∙ ap (λ o. take r (drop o c.loop-link.self.bytes.now)) offset ∙ ap (λ xs. take r (drop (i * r) xs)) same in (
      c.record.ensures.same ∙ same,
      (c.record.ensures.offset ∙ ap (λ o. o + r) offset ∙ sym (times_more i r)),
      joined_step (record_of k.bytes) c.loop-link.links i r c.record.result bytes (omega arith) c.loop-link.invariant.2 one,
    )

pub returns : goal.returns
returns g c =
    let k = g.K.SheetKind in
    let r = 2 + k.width in
    let i = c.loop-link.link-index in
    let bytes = c.args.self.now.bytes.now in
    let links = c.loop-link.links in
    let ended : length links ≤ i = omega arith in
    let whole : i ≡ length c.args.links.now = omega arith in
    let all : length bytes ≡ i * r = c.requires.1 ∙ ap (λ n. n * r) (sym whole) in
    let same : c.loop-link.self.bytes.now ≡ bytes = c.loop-link.invariant.0 in
    record {
      fills = sym (ap (flat_map (record_of k.bytes)) (take_all i links ended)) ∙ c.loop-link.invariant.2 ∙ take_all (i * r) bytes (omega arith);
      offset = c.loop-link.invariant.1 ∙ sym all ∙ sym (ap length same);
      same = same;
    }
