-- The layout of a sheet.
use Rattle.std.specs.Prelude.{ℕ, ◌+◌, ◌*◌, List, ◌∷◌, ◌++◌, length, slice_index}
use Rattle.std.specs.List.{flat_map}
use Rattle.networks.specs.declared.links.Link.{Link}
use Rattle.sheets.specs.Numbers.{be16, be32}

-- the fields of more than one byte: the length of what follows the first four bytes, and the number of links
abbrev pub length_field : List ℕ → ℕ
length_field sheet = slice_index sheet 0 * 16777216 + slice_index sheet 1 * 65536 + slice_index sheet 2 * 256 + slice_index sheet 3

abbrev pub links_field : List ℕ → ℕ
links_field sheet = slice_index sheet 7 * 256 + slice_index sheet 8

module _ {W : Type 0} (bytes : W → List ℕ) where
  -- a record: a byte for each end, and then the bytes of the weight
  abbrev pub record_of : Link W → List ℕ
  record_of link = link.from ∷ link.to ∷ bytes link.weight

-- a sheet of version 1: the length of all that follows, version, letter, sites, number of links, and then the records
abbrev pub sheet_of : (letter width : ℕ) {W : Type 0} (bytes : W → List ℕ) → ℕ → List (Link W) → List ℕ
sheet_of letter width bytes sites links =
    be32 (5 + length links * (2 + width)) ++ (1 ∷ letter ∷ sites ∷ (be16 (length links) ++ flat_map (record_of bytes) links))
