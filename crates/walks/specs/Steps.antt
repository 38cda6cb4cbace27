-- What one call does, and how far a pour has come.
use Rattle.std.specs.Prelude.{◌≡◌, ℕ, List, Option}
use Rattle.walks.specs.Places.{NextMembers, Comes, last_of}
use Rattle.receivers.specs.Rules.{Rule, held_after_all}
use Rattle.walks.specs.Taking.{AllTaken}
use Rattle.walks.specs.Events.{Event, gives, refuses, pours, finds, misses, taken, latest_after}
use Rattle.walks.specs.Answering.{Answered}

-- The rows given in an event come right after here.
abbrev pub InOrder : List (List ℕ) → Option (List ℕ) → Event → Type 0
InOrder L here (gives list after row) = Comes L here row
InOrder L here (refuses list after why) = Unit {0}
InOrder L here (pours limit rows letter) = NextMembers L here rows
InOrder L here (finds row) = Unit {0}
InOrder L here (misses row why) = Unit {0}

-- What one call does: the walk was at the place `here` and is then at `here'`, the receiver held `held` and
-- then holds `held'`.
pub record Step (L : List (List ℕ)) (size : ℕ) (J : Type 0) (rule : Rule) (here : Option (List ℕ)) (held : List ℕ)
    (e : Event) (here' : Option (List ℕ)) (held' : List ℕ) : Type 0 where
  pub in_order : InOrder L here e
  pub answered : Answered L size J rule here held e
  pub moves : here' ≡ latest_after here e
  pub holding : held' ≡ held_after_all rule held (taken e)

-- A pour that began at the place `here`, with `held` in the receiver, has poured these rows so far; the walk
-- is now at `here'`, and the receiver holds `held'`.
pub record SoFar (L : List (List ℕ)) (rule : Rule) (here : Option (List ℕ)) (held : List ℕ)
    (rows : List (List ℕ)) (here' : Option (List ℕ)) (held' : List ℕ) : Type 0 where
  pub in_order : NextMembers L here rows
  pub all_taken : AllTaken rule held rows
  pub moves : here' ≡ last_of here rows
  pub holding : held' ≡ held_after_all rule held rows
