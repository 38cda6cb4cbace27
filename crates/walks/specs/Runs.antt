-- The laws of a run: any list of calls of next, pour and seek on one walk, just begun, with one receiver.
-- They speak of the full list L, the entries `size` of a row, the statement J that the sites are joined, and
-- the receiver's taking rule.
use Rattle.std.specs.Prelude.{◌≡◌, ℕ, List, ◌∷◌, ◌++◌}
use Rattle.walks.specs.Places.{NextMembers}
use Rattle.receivers.specs.Rules.{Rule, held_after_all}
use Rattle.walks.specs.Events.{Event, sought, since, latest, poured}
use Rattle.walks.specs.Answering.{Answered}

-- The receiver held `start` at its beginning and holds `held` at its end.
pub record Kept (L : List (List ℕ)) (size : ℕ) (J : Type 0) (rule : Rule) (start : List ℕ)
    (events : List Event) (held : List ℕ) : Type 0 where
  -- at every moment, the rows given since the start or the latest accepted seek are the full list's next
  -- members from there, in order, none missed and none twice
  pub in_order : (past rest : List Event) → events ≡ past ++ rest → NextMembers L (sought past) (since past)
  -- the receiver holds what its rule makes of all rows poured
  pub holding : held ≡ held_after_all rule start (poured events)
  -- every call hears the right answer
  pub answers : (past rest : List Event) (e : Event) → events ≡ past ++ (e ∷ rest)
      → Answered L size J rule (latest past) (held_after_all rule start (poured past)) e
