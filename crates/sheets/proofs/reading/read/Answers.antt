use Rattle.std.proofs.Common.{◌≡◌, ◌+◌, ◌-◌, ◌*◌, ◌++◌, length, take, drop, sym, ap, ◌∙◌, arith}
use borrow.Rule.Slice.PartMut.{post_of}
use Rattle.std.proofs.lemmas.List.{length-take-le, length-drop, drop_at, take_at, length-append}
use Rattle.std.proofs.lemmas.Bool.{cond-false, le-ltb}
use Rattle.networks.specs.Refusals.{first_of}
use Rattle.sheets.specs.Reading.{field_rules}
use Rattle.sheets.specs.declared.reader.Header.{Header}
use Rattle.sheets.proofs.Fields.{sound_fields}
use Rattle.sheets.proofs.Again.{read_accepted}
use Rattle.sheets.proofs.Whole.{read_whole}
use Rattle.sheets.proofs.reading.read.Goals as goal

pub fill-requires : goal.fill-requires
fill-requires g c =
    let k = g.K.SheetKind in
    let h = c.in-Some.header in
    let sheet = c.args.sheet.now in
    let links = c.args.links.now in
    let taken = c.in-Some.ensures in
    let sound = sound_fields k.letter k.width (length sheet) (length links) h (sym c.in_ok-check_fields.ensures) in
    let many : length (take h.counts.links links) ≡ h.counts.links = length-take-le h.counts.links links sound.fits in
    let rest : length c.in-Some.records.bytes.now ≡ length sheet - 9 = ap length taken.after ∙ length-drop 9 sheet in
    let size : length sheet - 9 ≡ h.counts.links * (2 + k.width) =
    (let long = taken.long in let counted = sound.counted in let records = sound.records in omega arith) in
    (taken.start, rest ∙ size ∙ ap (λ n. n * (2 + k.width)) (sym many))

pub returns : goal.returns
returns g c =
    let k = g.K.SheetKind in
    let h = c.in-Some.header in
    let sheet = c.args.sheet.now in
    let links = c.args.links.now in
    let taken = c.in-Some.ensures in
    let none = sym c.in_ok-check_fields.ensures in
    let sound = sound_fields k.letter k.width (length sheet) (length links) h none in
    let filled = c.fill.new.links in
    let many : length filled ≡ h.counts.links = c.fill.auto.links ∙ length-take-le h.counts.links links sound.fits in
    record {
      refuses = sym (cond-false _ _ _ (le-ltb (length sheet) 9 taken.long) ∙ ap (λ (x : Header). first_of (field_rules k.letter k.width (length sheet) (length links) x.length x.version x.kind x.counts.sites x.counts.links)) (sym taken.fields) ∙ none);
      reads = read_whole k.letter k.width k.bytes sheet c.in-Some.records.bytes.now c.in-Some.records.offset (length sheet) (length links) h filled _
          (λ i. omega (arith, c.type_inv.sheet i)) taken sound many c.fill.ensures.fills;
      fills = omega (arith, length-append filled (post_of 0 (h.counts.links - 0) links));
      leaves = drop_at filled _ h.counts.links many ∙ ap (λ n. drop n links) (omega arith);
      keeps = tt;
      accepted = read_accepted k.letter k.width (length sheet) (length links) h (take h.counts.links (filled ++ _)) (ap length (take_at filled _ h.counts.links many) ∙ many) taken.long sound;
    }
