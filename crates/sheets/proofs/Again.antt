-- What is read can be written again, and what is written can be read again: sheets and links determine each other.
-- A record has a fixed number of bytes, so equal bytes cut into equal records, and a record's bytes determine its ends
-- and its weight.
use Rattle.std.proofs.Common.{◌≡◌, ℕ, ◌+◌, ◌-◌, ◌*◌, ◌/◌, ◌%◌, ◌≤◌, leb, List, [], ◌∷◌, length, get_or, take, drop, None, sym, refl, ap, ◌∙◌, arith}
use Rattle.std.specs.List.{flat_map}
use Rattle.std.proofs.lemmas.List.{take_at, drop_at}
use Rattle.std.proofs.lemmas.Bool.{cond-false, not_from_true, and_from, eq-eqb, le-leb, le-ltb}
use Rattle.networks.specs.Refusals.{first_of}
use Rattle.networks.specs.declared.links.Link.{Link}
use Rattle.sheets.specs.Layout.{length_field, links_field, record_of, sheet_of}
use Rattle.sheets.specs.Reading.{read_rules, field_rules}
use Rattle.sheets.specs.Headers.{header_of}
use Rattle.sheets.specs.Writing.{write_rules}
use Rattle.sheets.specs.declared.reader.Header.{Header}
use Rattle.sheets.proofs.Fields.{Sound}

abbrev link : {W : Type 0} → ℕ → ℕ → W → Link W
link from to weight = record { from = from; to = to; weight = weight }

-- what was read is written again
pub read_accepted : (letter width size room : ℕ) (h : Header) {W : Type 0} (links : List (Link W)) → length links ≡ h.counts.links → 9 ≤ size → Sound letter width size room h → first_of (write_rules width h.counts.sites (length links) size) ≡ None
read_accepted letter width size room h links many long sound =
    let sites = h.counts.sites in
    let few = sound.fewer in
    let bytes : length links * (2 + width) ≡ h.counts.links * (2 + width) = ap (λ n. n * (2 + width)) many in
    let fits : 9 + length links * (2 + width) ≤ size = (let a = sound.counted in let b = sound.records in omega arith) in
    cond-false _ _ _ (not_from_true _ (and_from (leb 1 sites) (leb sites 64) (le-leb 1 sites sound.some) (le-leb sites 64 sound.few)))
    ∙ cond-false _ _ _ (le-ltb 512 (length links) (omega arith))
    ∙ cond-false _ _ _ (le-ltb size (9 + length links * (2 + width)) fits)

-- the numbers that bytes were made of
back_32 : (n : ℕ) → n / 16777216 * 16777216 + n / 65536 % 256 * 65536 + n / 256 % 256 * 256 + n % 256 ≡ n
back_32 n = omega arith

back_16 : (n : ℕ) → n / 256 * 256 + n % 256 ≡ n
back_16 n = omega arith

-- no rule refuses a header that is sound
accepted_fields : (letter width size room : ℕ) (h : Header) → Sound letter width size room h → first_of (field_rules letter width size room h.length h.version h.kind h.counts.sites h.counts.links) ≡ None
accepted_fields letter width size room h s =
    cond-false _ _ _ (not_from_true _ (eq-eqb h.length (size - 4) s.counted))
    ∙ cond-false _ _ _ (not_from_true _ (eq-eqb h.version 1 s.version))
    ∙ cond-false _ _ _ (not_from_true _ (eq-eqb h.kind letter s.kind))
    ∙ cond-false _ _ _ (not_from_true _ (and_from (leb 1 h.counts.sites) (leb h.counts.sites 64) (le-leb 1 h.counts.sites s.some) (le-leb h.counts.sites 64 s.few)))
    ∙ cond-false _ _ _ (le-ltb 512 h.counts.links s.fewer)
    ∙ cond-false _ _ _ (not_from_true _ (eq-eqb h.length (5 + h.counts.links * (2 + width)) s.records))
    ∙ cond-false _ _ _ (le-ltb room h.counts.links s.fits)

module _ (letter width : ℕ) {W : Type 0} (bytes : W → List ℕ) where
  -- what was written is read again
  pub sheet_accepted : (sites : ℕ) (links : List (Link W)) (room : ℕ) → length (flat_map (record_of bytes) links) ≡ length links * (2 + width) → 1 ≤ sites → sites ≤ 64 → length links ≤ 512 → length links ≤ room → first_of (read_rules letter width (sheet_of letter width bytes sites links) room) ≡ None
  sheet_accepted sites links room wide some few fewer fits =
      let sheet = sheet_of letter width bytes sites links in
      let size : length sheet ≡ 9 + length links * (2 + width) = omega arith in
      let counted : length_field sheet ≡ 5 + length links * (2 + width) = back_32 (5 + length links * (2 + width)) in
      let many : links_field sheet ≡ length links = back_16 (length links) in
      cond-false _ _ _ (le-ltb (length sheet) 9 (omega arith))
      ∙ accepted_fields letter width (length sheet) room (header_of sheet) record {
        counted = omega arith;
        version = refl;
        kind = refl;
        some = some;
        few = few;
        fewer = omega arith;
        records = counted ∙ ap (λ n. 5 + n * (2 + width)) (sym many);
        fits = omega arith;
      }

  module _ (wide : (w : W) → length (bytes w) ≡ width) (determined : (x y : W) → bytes x ≡ bytes y → x ≡ y) where
    record_alone : (x y : Link W) → record_of bytes x ≡ record_of bytes y → x ≡ y
    record_alone x y e =
        let from : x.from ≡ y.from = cc in
        let to : x.to ≡ y.to = cc in
        let rest : bytes x.weight ≡ bytes y.weight = cc in
        let weight : x.weight ≡ y.weight = determined x.weight y.weight rest in
        ap (λ a. link a x.to x.weight) from ∙ ap (λ b. link y.from b x.weight) to ∙ ap (link y.from y.to) weight

    records_alone : (xs ys : List (Link W)) → flat_map (record_of bytes) xs ≡ flat_map (record_of bytes) ys → xs ≡ ys
    records_alone [] [] e = refl
    records_alone [] (y ∷ ys) e = absurd (let l = ap length e in omega arith)
    records_alone (x ∷ xs) [] e = absurd (let l = ap length e in omega arith)
    records_alone (x ∷ xs) (y ∷ ys) e =
        let wx : length (record_of bytes x) ≡ 2 + width = (let a = wide x.weight in omega arith) in
        let wy : length (record_of bytes y) ≡ 2 + width = (let a = wide y.weight in omega arith) in
        let front : record_of bytes x ≡ record_of bytes y =
        sym (take_at (record_of bytes x) (flat_map (record_of bytes) xs) (2 + width) wx) ∙ ap (take (2 + width)) e ∙ take_at (record_of bytes y) (flat_map (record_of bytes) ys) (2 + width) wy in
        let back : flat_map (record_of bytes) xs ≡ flat_map (record_of bytes) ys =
        sym (drop_at (record_of bytes x) (flat_map (record_of bytes) xs) (2 + width) wx) ∙ ap (drop (2 + width)) e ∙ drop_at (record_of bytes y) (flat_map (record_of bytes) ys) (2 + width) wy in
        let one = record_alone x y front in
        let more = records_alone xs ys back in
        cc

    -- sheets with equal bytes have equal sites and equal links
    pub sheet_alone : (m n : ℕ) (xs ys : List (Link W)) → sheet_of letter width bytes m xs ≡ sheet_of letter width bytes n ys → (m ≡ n) × (xs ≡ ys)
    sheet_alone m n xs ys e =
        (ap (λ sheet. get_or sheet 6 0) e, records_alone xs ys (ap (drop 9) e))
