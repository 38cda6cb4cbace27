-- What happens when next, pour or seek is called on a walk with a receiver, and what a run of such calls
-- has given, sought and poured.
use Rattle.std.specs.Prelude.{ℕ, List, [], ◌∷◌, ◌++◌, Some, None, Option}
use mathlib.Core.List.{foldl}
use Rattle.networks.specs.declared.refusals.Report.{Report}
use Rattle.walks.specs.Places.{last_of}

-- One call and its answer.
pub data Event : Type 0 where
  -- next was passed a list, wrote the row into it, and the list is then `after`
  gives : (list after row : List ℕ) → Event
  -- next was passed a list and refused, and the list is then `after`
  refuses : (list after : List ℕ) (why : Report) → Event
  -- pour was passed a limit, the receiver took the rows, and the letter says why it ended
  pours : (limit : ℕ) (rows : List (List ℕ)) (letter : ℕ) → Event
  -- seek accepted the row
  finds : (row : List ℕ) → Event
  -- seek refused the row
  misses : (row : List ℕ) (why : Report) → Event

-- The rows poured in an event: those that the receiver took.
abbrev pub taken : Event → List (List ℕ)
taken (gives list after row) = []
taken (refuses list after why) = []
taken (pours limit rows letter) = rows
taken (finds row) = []
taken (misses row why) = []

-- The row sought, the rows given since, and the latest row given or sought: what they are after an event,
-- from what they were before it.
abbrev pub sought_after : Option (List ℕ) → Event → Option (List ℕ)
sought_after sought (gives list after row) = sought
sought_after sought (refuses list after why) = sought
sought_after sought (pours limit rows letter) = sought
sought_after sought (finds row) = Some row
sought_after sought (misses row why) = sought

abbrev pub since_after : List (List ℕ) → Event → List (List ℕ)
since_after since (gives list after row) = since ++ (row ∷ [])
since_after since (refuses list after why) = since
since_after since (pours limit rows letter) = since ++ rows
since_after since (finds row) = []
since_after since (misses row why) = since

abbrev pub latest_after : Option (List ℕ) → Event → Option (List ℕ)
latest_after latest (gives list after row) = Some row
latest_after latest (refuses list after why) = latest
latest_after latest (pours limit rows letter) = last_of latest rows
latest_after latest (finds row) = Some row
latest_after latest (misses row why) = latest

-- A run is the list of its events, oldest first.

-- The row of the run's latest accepted seek, or None.
abbrev pub sought : List Event → Option (List ℕ)
sought events = foldl sought_after None events

-- The rows given since the start or the latest accepted seek, in order.
abbrev pub since : List Event → List (List ℕ)
since events = foldl since_after [] events

-- The latest row given or sought, or None.
abbrev pub latest : List Event → Option (List ℕ)
latest events = foldl latest_after None events

-- All rows poured, in order.
abbrev pub poured : List Event → List (List ℕ)
poured events = foldl (λ rows e. rows ++ taken e) [] events
