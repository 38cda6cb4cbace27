-- What each call does on a walk through its network's full list, for every such list (there is exactly one).
use Rattle.std.specs.Prelude.{◌≡◌, ℕ, List, Option}
use Rattle.forests.specs.Graphs.{SitesJoined}
use Rattle.weights.specs.Scales.{Weighing}
use Rattle.networks.specs.Networks.{network_graph}
use Rattle.networks.specs.declared.refusals.Report.{Report}
use Rattle.receivers.specs.Rules.{Rule}
use Rattle.walks.specs.Doing.{NextDoes, SeekDoes, PourDoes}
use Rattle.walks.specs.Walks.{network_of, place_of, row_size, Listed, Begun}
use Rattle.walks.specs.declared.walks.Walk.{Walk}

module _ {K : Type 0} (kind : Weighing K) (before after : Walk K) where
  -- The sites of the network that is walked through are joined.
  abbrev pub JoinedIn : Type 0
  JoinedIn = SitesJoined (network_graph (network_of before))

  -- The walk holds its network as before, and stays begun on it.
  pub record Stays : Type 0 where
    pub network : network_of after ≡ network_of before
    pub begun : Begun kind before → Begun kind after

  abbrev pub NextActs : (list list' : List ℕ) (said : Option Report) → Type 0
  NextActs list list' said = Begun kind before → (L : List (List ℕ)) → Listed kind (network_of before) L
      → NextDoes L (row_size (network_of before)) JoinedIn (place_of before) list list' said (place_of after)

  abbrev pub SeekActs : (row : List ℕ) (said : Option Report) → Type 0
  SeekActs row said = Begun kind before → (L : List (List ℕ)) → Listed kind (network_of before) L
      → SeekDoes L (place_of before) row said (place_of after)

  abbrev pub PourActs : (rule : Rule) (held : List ℕ) (limit count letter : ℕ) (held' : List ℕ) → Type 0
  PourActs rule held limit count letter held' = Begun kind before → (L : List (List ℕ)) → Listed kind (network_of before) L
      → PourDoes L JoinedIn rule (place_of before) held limit count letter (place_of after) held'
