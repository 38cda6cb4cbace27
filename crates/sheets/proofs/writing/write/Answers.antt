use Rattle.std.proofs.Common.{◌≡◌, ◌+◌, ◌-◌, ◌*◌, leb, ◌∷◌, ◌++◌, length, drop, sym, ap, ◌∙◌, ◌≤◌, arith, rules}
use Rattle.std.specs.List.{flat_map}
use Rattle.std.proofs.lemmas.Bool.{cond-false, not_from_true, and_from, le-leb, le-ltb}
use Rattle.sheets.specs.Layout.{record_of}
use Rattle.sheets.specs.Numbers.{be16, be32}
use Rattle.sheets.proofs.Again.{sheet_accepted, sheet_alone}
use Rattle.sheets.proofs.Places.{front_and_middle, length_joined}
use Rattle.sheets.proofs.writing.write.Goals as goal

pub returns : goal.returns
returns g c =
    let k = g.K.SheetKind in
    let links = c.args.links.now in
    let sheet = c.args.sheet.now in
    let sites = c.args.sites in
    let records = flat_map (record_of k.bytes) links in
    let wide : length records ≡ length links * (2 + k.width) =
    length_joined (record_of k.bytes) (2 + k.width) links (λ link. (let w = g.met.K.SheetKind.wide link.weight in omega arith)) in
    let same : length links * (2 + c.weight_width.result) ≡ length links * (2 + k.width) = ap (λ n. length links * (2 + n)) c.weight_width.ensures in
    let some : 1 ≤ sites = search rules in
    let few : sites ≤ 64 = search rules in
    let header = be32 (5 + length links * (2 + k.width)) ++ (1 ∷ k.letter ∷ sites ∷ be16 (length links)) in
    let size = 9 + length links * (2 + c.weight_width.result) in
    record {
      refuses = sym
          (cond-false _ _ _ (not_from_true _ (and_from (leb 1 sites) (leb sites 64) (le-leb 1 sites some) (le-leb sites 64 few)))
          ∙ cond-false _ _ _ (le-ltb 512 (length links) c.if-count-gt512.false)
          ∙ cond-false _ _ _ (le-ltb (length sheet) (9 + length links * (2 + k.width)) (let h = c.if-sheet-size.false in omega arith)));
      len = omega arith;
      writes = front_and_middle sheet c.put_header.new.places c.put_records.new.places (size - 9) (ap length c.put_header.ensures)
          ∙ ap (λ xs. (xs ++ c.put_records.new.places) ++ drop (9 + (size - 9)) sheet) c.put_header.ensures
          ∙ ap (λ xs. (header ++ xs) ++ drop (9 + (size - 9)) sheet) c.put_records.ensures
          ∙ ap (λ n. (header ++ records) ++ drop n sheet) (omega arith);
      keeps = tt;
      accepted = λ room fits. sheet_accepted k.letter k.width k.bytes sites links room wide some few c.if-count-gt512.false fits;
      alone = λ n others same_bytes. sheet_alone k.letter k.width k.bytes g.met.K.SheetKind.wide g.met.K.SheetKind.determined n sites others links same_bytes;
    }
