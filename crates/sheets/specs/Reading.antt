-- When a sheet is refused.
use Rattle.std.specs.Prelude.{ℕ, ◌+◌, ◌-◌, ◌*◌, not, ◌&&◌, List, [], ◌∷◌, length, ◌==◌, nat_le, nat_lt, slice_index}
use Rattle.networks.specs.Refusals.{Rule, at}
use Rattle.networks.specs.declared.refusals.Layer.TheVariants.{Sheet}
use Rattle.sheets.specs.Layout.{length_field, links_field}

-- of a sheet of so many bytes, read into a list of so many places: the length field is not the number of bytes after
-- it; the version is not 1; the kind is another; the sites are not 1 to 64; there are more than 512 links; the length
-- field is not that of so many records; the list is too short
abbrev pub field_rules : (letter width size room counted version kind sites links : ℕ) → List Rule
field_rules letter width size room counted version kind sites links =
    (not (counted == size - 4), at Sheet 2 0)
    ∷ (not (version == 1), at Sheet 3 4)
    ∷ (not (kind == letter), at Sheet 4 5)
    ∷ (not (nat_le 1 sites && nat_le sites 64), at Sheet 5 6)
    ∷ (nat_lt 512 links, at Sheet 6 7)
    ∷ (not (counted == 5 + links * (2 + width)), at Sheet 7 7)
    ∷ (nat_lt room links, at Sheet 10 room)
    ∷ []

-- the sheet is shorter than a header; a field is refused
abbrev pub read_rules : (letter width : ℕ) → List ℕ → ℕ → List Rule
read_rules letter width sheet room =
    (nat_lt (length sheet) 9, at Sheet 1 (length sheet)) ∷ field_rules letter width (length sheet) room (length_field sheet) (slice_index sheet 4) (slice_index sheet 5) (slice_index sheet 6) (links_field sheet)
