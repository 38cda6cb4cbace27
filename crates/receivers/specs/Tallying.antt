-- The tally's taking rule. It holds the count of rows and then one count for each of the 512 link numbers.
use Rattle.std.specs.Prelude.{ℕ, ◌+◌, Bool, cond, ◌&&◌, List, [], ◌∷◌, map, length, Some, None, Option, ◌==◌, nat_lt, slice_index}
use Rattle.std.specs.List.{list_all, list_any, range_with_len}
use Rattle.receivers.specs.Rules.{few_entries}

-- whether the link is in the row
abbrev pub in_row : ℕ → List ℕ → Bool
in_row link row = list_any (λ entry. entry == link) row

-- whether every entry is a link number
abbrev pub all_links : List ℕ → Bool
all_links row = list_all (λ entry. nat_lt entry 512) row

-- a link's count after the row: one more if the link is in it, however often
abbrev pub count_after : List ℕ → List ℕ → ℕ → ℕ
count_after counts row link = cond (in_row link row) (slice_index counts link + 1) (slice_index counts link)

-- whether the row can be counted when so many rows were counted before
abbrev pub countable : ℕ → List ℕ → Bool
countable rows row = few_entries row && (nat_lt rows 4294967295 && all_links row)

-- the count of rows in what a tally holds
abbrev pub rows_in : List ℕ → ℕ
rows_in [] = 0
rows_in (rows ∷ counts) = rows

-- a link's count in it, 0 for a number of 512 or more
abbrev pub times_in : List ℕ → ℕ → ℕ
times_in [] link = 0
times_in (rows ∷ counts) link = slice_index counts link

-- the rule
abbrev pub tallying : List ℕ → List ℕ → Option (List ℕ)
tallying [] row = None
tallying (rows ∷ counts) row = cond (countable rows row) (Some ((rows + 1) ∷ map (count_after counts row) (range_with_len 0 (length counts)))) None
