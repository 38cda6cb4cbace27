-- Which links are closed.
use Rattle.std.specs.Prelude.{ℕ, Bool, false, List, replicate, slice_index_or}
use Rattle.networks.specs.declared.closed.Closed.{Closed}

-- the state of each number below 512: whether it is closed
abbrev pub states_of : Closed → List Bool
states_of c = c.marks

-- no link is closed
abbrev pub none_closed : Closed
none_closed = record { marks = replicate 512 false }

abbrev pub closed_at : Closed → ℕ → Bool
closed_at c e = slice_index_or (states_of c) e false
