-- What is taken off the front of a sheet.
use Rattle.std.specs.Prelude.{◌≡◌, ℕ, ◌≤◌, List, length, drop, slice_index}
use Rattle.sheets.specs.Layout.{length_field, links_field}
use Rattle.sheets.specs.declared.reader.Header.{Header}

-- the header's fields, from their places in the first nine bytes
abbrev pub header_of : List ℕ → Header
header_of sheet = record {
  length = length_field sheet;
  version = slice_index sheet 4;
  kind = slice_index sheet 5;
  counts = record { sites = slice_index sheet 6; links = links_field sheet };
}

-- the header is read, and what follows it is left to read from its start
pub record Taken (sheet : List ℕ) (header : Header) (rest : List ℕ) (offset : ℕ) : Type 0 where
  pub long : 9 ≤ length sheet
  pub fields : header ≡ header_of sheet
  pub after : rest ≡ drop 9 sheet
  pub start : offset ≡ 0
