-- The text writer's taking rule. It holds the bytes of the lines, one line for each row.
use Rattle.std.specs.Prelude.{ℕ, ◌+◌, ◌<◌, ◌≤◌, Bool, cond, ◌&&◌, List, [], ◌∷◌, ◌++◌, length, Some, None, decimal, nat_le, slice_index}
use Rattle.receivers.specs.Rules.{Rule, few_entries}

-- entries in decimal, each behind a space
abbrev pub spaced : List ℕ → List ℕ
spaced [] = []
spaced (entry ∷ row) = (32 ∷ decimal entry) ++ spaced row

-- the entries in decimal with one space between, or a dash for an empty row
abbrev pub entries_of : List ℕ → List ℕ
entries_of [] = 45 ∷ []
entries_of (entry ∷ row) = decimal entry ++ spaced row

-- the line of a row, which ends with a newline
abbrev pub line_of : List ℕ → List ℕ
line_of row = entries_of row ++ 10 ∷ []

-- at most 63 entries of 16 bits
abbrev pub ShortRow : List ℕ → Type 0
ShortRow row = (length row ≤ 63) × ((i : ℕ) → slice_index row i < 65536)

-- whether the row has at most 63 entries and its line, behind so many bytes, fits into the places
abbrev pub writable : ℕ → ℕ → List ℕ → Bool
writable places held row = few_entries row && nat_le (held + length (line_of row)) places

-- the rule of a text writer that was passed so many places
abbrev pub writing : ℕ → Rule
writing places held row = cond (writable places (length held) row) (Some (held ++ line_of row)) None
