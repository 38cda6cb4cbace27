-- A sheet from its parts.
use Rattle.std.proofs.Common.{◌≡◌, ℕ, ◌+◌, ◌*◌, ◌<◌, ◌≤◌, List, ◌∷◌, ◌++◌, length, get_or, take, drop, sym, refl, ap, ◌∙◌, arith}
use Rattle.std.specs.List.{flat_map}
use Rattle.std.proofs.lemmas.List.{drop_more, take-append-drop, drop-drop, take_at}
use Rattle.networks.specs.declared.links.Link.{Link}
use Rattle.sheets.specs.Layout.{length_field, links_field, record_of, sheet_of}
use Rattle.sheets.specs.Numbers.{be16, be32}
use Rattle.sheets.specs.Headers.{Taken}
use Rattle.sheets.specs.declared.reader.Header.{Header}
use Rattle.sheets.proofs.Fields.{Sound}
use Rattle.sheets.proofs.BigEndian.{be16_at, be32_at}

-- a list from its fields of four, one, one, one and two bytes and the rest
parts : (sheet : List ℕ) → 9 ≤ length sheet → take 4 sheet ++ (get_or sheet 4 0 ∷ get_or sheet 5 0 ∷ get_or sheet 6 0 ∷ (take 2 (drop 7 sheet) ++ drop 9 sheet)) ≡ sheet
parts sheet l =
    let after : take 2 (drop 7 sheet) ++ drop 9 sheet ≡ drop 7 sheet =
    ap (λ back. take 2 (drop 7 sheet) ++ back) (sym (drop-drop 2 7 sheet)) ∙ take-append-drop 2 (drop 7 sheet) in
    let middle : drop 4 sheet ≡ get_or sheet 4 0 ∷ get_or sheet 5 0 ∷ get_or sheet 6 0 ∷ drop 7 sheet =
    drop_more sheet 4 0 (omega arith)
    ∙ ap (λ rest. get_or sheet 4 0 ∷ rest) (drop_more sheet 5 0 (omega arith))
    ∙ ap (λ rest. get_or sheet 4 0 ∷ get_or sheet 5 0 ∷ rest) (drop_more sheet 6 0 (omega arith)) in
    ap (λ rest. take 4 sheet ++ (get_or sheet 4 0 ∷ get_or sheet 5 0 ∷ get_or sheet 6 0 ∷ rest)) after
    ∙ ap (λ rest. take 4 sheet ++ rest) (sym middle)
    ∙ take-append-drop 4 sheet

module _ (letter width : ℕ) {W : Type 0} (bytes : W → List ℕ) (sheet : List ℕ) (links : List (Link W)) where
  -- bytes that have the fields of these links, and then their records, are their sheet
  pub sheet_from_fields : ((k : ℕ) → get_or sheet k 0 < 256) → 9 ≤ length sheet → length_field sheet ≡ 5 + length links * (2 + width) → get_or sheet 4 0 ≡ 1 → get_or sheet 5 0 ≡ letter → links_field sheet ≡ length links → flat_map (record_of bytes) links ≡ drop 9 sheet → sheet_of letter width bytes (get_or sheet 6 0) links ≡ sheet
  sheet_from_fields small long counted version kind many records =
      let first : be32 (5 + length links * (2 + width)) ≡ take 4 sheet =
      ap be32 (sym counted) ∙ be32_at sheet 0 small (length_field sheet) (omega arith) refl in
      let count : be16 (length links) ≡ take 2 (drop 7 sheet) =
      ap be16 (sym many) ∙ be16_at sheet 7 small (links_field sheet) (omega arith) refl in
      ap (λ front. front ++ (1 ∷ letter ∷ get_or sheet 6 0 ∷ (be16 (length links) ++ flat_map (record_of bytes) links))) first
      ∙ ap (λ v. take 4 sheet ++ (v ∷ letter ∷ get_or sheet 6 0 ∷ (be16 (length links) ++ flat_map (record_of bytes) links))) (sym version)
      ∙ ap (λ k. take 4 sheet ++ (get_or sheet 4 0 ∷ k ∷ get_or sheet 6 0 ∷ (be16 (length links) ++ flat_map (record_of bytes) links))) (sym kind)
      ∙ ap (λ c. take 4 sheet ++ (get_or sheet 4 0 ∷ get_or sheet 5 0 ∷ get_or sheet 6 0 ∷ (c ++ flat_map (record_of bytes) links))) count
      ∙ ap (λ rest. take 4 sheet ++ (get_or sheet 4 0 ∷ get_or sheet 5 0 ∷ get_or sheet 6 0 ∷ (take 2 (drop 7 sheet) ++ rest))) records
      ∙ parts sheet long

-- what is read is the sheet of the links that were filled in, whatever stands behind them
pub read_whole : (letter width : ℕ) {W : Type 0} (bytes : W → List ℕ) (sheet rest : List ℕ) (offset size room : ℕ) (h : Header) (filled behind : List (Link W)) → ((k : ℕ) → get_or sheet k 0 < 256) → Taken sheet h rest offset → Sound letter width size room h → length filled ≡ h.counts.links → flat_map (record_of bytes) filled ≡ rest → sheet_of letter width bytes h.counts.sites (take h.counts.links (filled ++ behind)) ≡ sheet
read_whole letter width bytes sheet rest offset size room h filled behind small taken sound many records =
    let fields = taken.fields in
    let counted : length_field sheet ≡ 5 + length filled * (2 + width) =
    sym (ap (λ (x : Header). x.length) fields) ∙ sound.records ∙ ap (λ n. 5 + n * (2 + width)) (sym many) in
    ap (λ s. sheet_of letter width bytes s (take h.counts.links (filled ++ behind))) (ap (λ (x : Header). x.counts.sites) fields)
    ∙ ap (sheet_of letter width bytes (get_or sheet 6 0)) (take_at filled behind h.counts.links many)
    ∙ sheet_from_fields letter width bytes sheet filled small taken.long counted
    (sym (ap (λ (x : Header). x.version) fields) ∙ sound.version)
    (sym (ap (λ (x : Header). x.kind) fields) ∙ sound.kind)
    (sym (ap (λ (x : Header). x.counts.links) fields) ∙ sym many)
    (records ∙ taken.after)
