-- What a kept place says.
use Rattle.std.specs.Prelude.{ℕ, Bool, Option, Some, None, is_some, List, [], take}
use Rattle.cheapest.specs.declared.kept.Kept.{Kept}
use Rattle.cheapest.specs.declared.kept.Links.{Links}

-- Whether the walk was on a row.
abbrev pub kept_on : Kept → Bool
kept_on kept = is_some kept.row

-- The links of a row, if there is one.
abbrev pub links_of : Option Links → List ℕ
links_of None = []
links_of (Some links) = take links.size links.numbers

-- The row that the walk was on; before the full list there was none.
abbrev pub kept_row : Kept → List ℕ
kept_row kept = links_of kept.row
