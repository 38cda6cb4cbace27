-- What a tally holds.
use Rattle.std.specs.Prelude.{ℕ, ◌+◌, cond, List, ◌∷◌, map, nat_lt}
use Rattle.receivers.specs.declared.types.Tally.{Tally}

-- how many rows counted each link
abbrev pub counts_of : Tally → List ℕ
counts_of t = map (λ c. c.times) t.links

-- the number of the latest row that counted each link, 0 for none
abbrev pub lasts_of : Tally → List ℕ
lasts_of t = map (λ c. c.last) t.links

-- the count of rows, and then the counts
abbrev pub tallied : Tally → List ℕ
tallied t = t.rows ∷ counts_of t

-- a count once the row of this number has the link: one more, unless the latest row that counted there was this one
abbrev pub once_more : ℕ → ℕ → ℕ → ℕ
once_more number last count = cond (nat_lt last number) (count + 1) count
