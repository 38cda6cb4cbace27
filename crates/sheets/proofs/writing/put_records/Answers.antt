use Rattle.std.proofs.Common.{◌≡◌, ◌+◌, ◌-◌, ◌*◌, ◌≤◌, length, drop, sym, ap, ◌∙◌, arith, rules}
use Rattle.std.specs.List.{flat_map}
use Rattle.std.proofs.lemmas.List.{take_all, length-take, length-drop}
use Rattle.sheets.specs.Layout.{record_of}
use Rattle.sheets.proofs.Records.{room_left}
use Rattle.sheets.proofs.Places.{records_more}
use Rattle.sheets.proofs.writing.put_records.Goals as goal

pub slice_bounds-put_record-end : goal.slice_bounds-put_record-end
slice_bounds-put_record-end g c =
    let left = room_left c.loop-number.number (length c.args.links.now) (2 + g.K.SheetKind.width) c.loop-number-test.true in
    search rules

pub loop-number-preserved : goal.loop-number-preserved
loop-number-preserved g c =
    let k = g.K.SheetKind in
    let r = 2 + c.weight_width.result in
    let i = c.loop-number.number in
    let places = c.loop-number.places in
    let size : length c.args.places.now ≡ length c.args.links.now * r = c.requires.0 ∙ ap (λ n. length c.args.links.now * (2 + n)) (sym c.weight_width.ensures) in
    let left = room_left i (length c.args.links.now) r c.loop-number-test.true in
    let kept = c.loop-number.auto.places in
    let room : i * r + r ≤ length places = omega arith in
    let one : length c.put_record.new.places ≡ r =
    c.put_record.auto.places ∙ omega (arith, length-take (i * r + r - i * r) (drop (i * r) places), length-drop (i * r) places) in
    records_more (record_of k.bytes) c.args.links.now i r (i * r + r - i * r) c.index-links-number.result places c.put_record.new.places
    c.loop-number-test.true c.index-links-number.is (omega arith) one c.put_record.ensures c.loop-number.invariant

pub returns : goal.returns
returns g c =
    let k = g.K.SheetKind in
    let r = 2 + c.weight_width.result in
    let i = c.loop-number.number in
    let places = c.loop-number.places in
    let links = c.args.links.now in
    let whole : i ≡ length links = omega arith in
    let size : length places ≡ i * r =
    c.loop-number.auto.places ∙ c.requires.0 ∙ ap (λ n. length links * (2 + n)) (sym c.weight_width.ensures) ∙ ap (λ n. n * r) (sym whole) in
    sym (take_all (i * r) places (omega arith)) ∙ c.loop-number.invariant ∙ ap (flat_map (record_of k.bytes)) (take_all i links c.loop-number-test.false)
