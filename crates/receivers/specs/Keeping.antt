-- The keeper's taking rule. It holds the rows one after the other, each as its length and then its entries.
use Rattle.std.specs.Prelude.{ℕ, ◌+◌, Bool, cond, ◌&&◌, List, ◌∷◌, ◌++◌, length, Some, None, nat_le}
use Rattle.receivers.specs.Rules.{Rule, few_entries}

-- a row as it is kept
abbrev pub kept_row : List ℕ → List ℕ
kept_row row = length row ∷ row

-- whether the row has at most 63 entries and, kept behind so many numbers, fits into the places
abbrev pub keepable : ℕ → ℕ → List ℕ → Bool
keepable places held row = few_entries row && nat_le (held + (length row + 1)) places

-- the rule of a keeper that was passed so many places
abbrev pub keeping : ℕ → Rule
keeping places held row = cond (keepable places (length held) row) (Some (held ++ kept_row row)) None
