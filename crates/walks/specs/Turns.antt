-- Turns: calls of a list, with their answers, as the program hands them over.
use Rattle.std.specs.Prelude.{◌≡◌, ℕ, List, map, length, Some, None, Ok, Err, vec_items, Option, Result}
use Rattle.networks.specs.Refusals.{report_of}
use Rattle.networks.specs.declared.refusals.Refusal.{Refusal}
use Rattle.networks.specs.declared.refusals.Report.{Report}
use Rattle.walks.specs.Calls.{Asked, next, pour, seek, call_of}
use Rattle.walks.specs.Events.{Event, gives, refuses, pours, finds, misses}
use Rattle.walks.specs.declared.turns.Call.{Call}
use Rattle.walks.specs.declared.turns.Call.TheVariants.{Next, Pour, Seek}
use Rattle.walks.specs.declared.turns.Reply.{Reply}
use Rattle.walks.specs.declared.turns.Reply.TheVariants.{Done, Poured}
use Rattle.walks.specs.declared.turns.Turn.{Turn}

-- An answer as the outside sees it.
pub data Heard : Type 0 where
  nothing : Heard
  done : Heard
  refused : (why : Report) → Heard
  poured : (count letter : ℕ) → Heard

-- What a call asks.
abbrev pub asked_by : Call → Asked
asked_by (Next list) = next (vec_items list)
asked_by (Pour limit) = pour limit
asked_by (Seek row) = seek (vec_items row)

-- What an answer says, once there is one.
abbrev pub heard_from : Option (Result Reply Refusal) → Heard
heard_from None = nothing
heard_from (Some (Ok Done)) = done
heard_from (Some (Ok (Poured count letter))) = poured count letter
heard_from (Some (Err refusal)) = refused (report_of refusal)

-- What is heard of a call that answers nothing but whether it was refused.
abbrev pub heard_as : Option Report → Heard
heard_as None = done
heard_as (Some why) = refused why

-- What the event leaves in what the call was passed.
abbrev pub left_by : Event → Asked
left_by (gives list after row) = next after
left_by (refuses list after why) = next after
left_by (pours limit rows letter) = pour limit
left_by (finds row) = seek row
left_by (misses row why) = seek row

-- What is heard of the event.
abbrev pub heard_of : Event → Heard
heard_of (gives list after row) = done
heard_of (refuses list after why) = refused why
heard_of (pours limit rows letter) = poured (length rows) letter
heard_of (finds row) = done
heard_of (misses row why) = refused why

-- What is asked in turns, and what was heard.
abbrev pub asked : List Turn → List Asked
asked turns = map (λ turn. asked_by turn.call) turns

abbrev pub heard : List Turn → List Heard
heard turns = map (λ turn. heard_from turn.answer) turns

-- The events are those of the turns, one by one: what was asked, what was left in the passed lists, and what
-- was heard.
pub record Told (events : List Event) (before after : List Turn) : Type 0 where
  pub asks : asked before ≡ map call_of events
  pub leaves : asked after ≡ map left_by events
  pub hears : heard after ≡ map heard_of events
