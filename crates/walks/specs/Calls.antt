-- What was asked in the events of a run.
use Rattle.std.specs.Prelude.{ℕ, List, map}
use Rattle.walks.specs.Events.{Event, gives, refuses, pours, finds, misses}

-- A call and what it is passed.
pub data Asked : Type 0 where
  next : (list : List ℕ) → Asked
  pour : (limit : ℕ) → Asked
  seek : (row : List ℕ) → Asked

abbrev pub call_of : Event → Asked
call_of (gives list after row) = next list
call_of (refuses list after why) = next list
call_of (pours limit rows letter) = pour limit
call_of (finds row) = seek row
call_of (misses row why) = seek row

abbrev pub calls_of : List Event → List Asked
calls_of events = map call_of events
