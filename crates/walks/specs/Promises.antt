-- The promise of the walk, over every list of calls.
use Rattle.std.specs.Prelude.{◌≡◌, ℕ, List, length}
use Rattle.forests.specs.Graphs.{SitesJoined}
use Rattle.weights.specs.Scales.{Weighing}
use Rattle.cheapest.specs.Ranks.{Alike}
use Rattle.networks.specs.Links.{from_of, to_of}
use Rattle.networks.specs.Networks.{sites_of, links_of, closed_in, network_graph, weights_of}
use Rattle.networks.specs.declared.networks.Network.{Network}
use Rattle.receivers.specs.Rules.{Rule}
use Rattle.walks.specs.Calls.{Asked, call_of}
use Rattle.walks.specs.Events.{Event, latest}
use Rattle.walks.specs.Runs.{Kept}
use Rattle.walks.specs.Steps.{Step}
use Rattle.walks.specs.Turns.{Heard, heard_of, left_by, asked, heard, Told}
use Rattle.walks.specs.Walks.{network_of, place_of, row_size, Listed, Begun}
use Rattle.walks.specs.declared.turns.Turn.{Turn}
use Rattle.walks.specs.declared.walks.Walk.{Walk}

-- One call on a walk is an event: the call asked what the event asks, was passed back what it leaves, and heard
-- what is heard of it; and by the law of single calls it leads the walk and the receiver on.
abbrev pub Performs : {K : Type 0} → Weighing K → Walk K → Walk K → Rule → List ℕ → List ℕ → Asked → Asked → Heard → Type 0
Performs kind before after rule held held' ask left hear = Begun kind before → (L : List (List ℕ)) → Listed kind (network_of before) L
    → (e : Event) × (ask ≡ call_of e) × (left ≡ left_by e) × (hear ≡ heard_of e)
    × Step L (row_size (network_of before)) (SitesJoined (network_graph (network_of before))) rule (place_of before) held e (place_of after) held'

-- The turns are those of a run that keeps the laws of runs over the full list of the network. The receiver, with
-- this taking rule, held `held` when the run began and holds `held'` at its end.
pub record Promised {K : Type 0} (kind : Weighing K) (n : Network K) (rule : Rule) (held held' : List ℕ) (before after : List Turn) : Type 0 where
  pub full : List (List ℕ)
  pub listed : Listed kind n full
  pub events : List Event
  pub told : Told events before after
  pub kept : Kept full (row_size n) (SitesJoined (network_graph n)) rule held events held'

-- The promise is kept, and the walk that is handed over holds the network and is on the latest row given or sought.
pub record Performed {K : Type 0} (kind : Weighing K) (n : Network K) (walk : Walk K) (rule : Rule) (held held' : List ℕ) (before after : List Turn) : Type 0 where
  pub promised : Promised kind n rule held held' before after
  pub network : network_of walk ≡ n
  pub place : place_of walk ≡ latest promised.events
  pub begun : Begun kind walk

-- Two networks, of whatever kinds, have the same links: sites and ends agree number by number, and the same
-- links are closed.
pub record SameLinks {K K' : Type 0} (n : Network K) (n' : Network K') : Type 0 where
  pub sites : sites_of n ≡ sites_of n'
  pub links : length (links_of n) ≡ length (links_of n')
  pub from : (e : ℕ) → from_of (links_of n) e ≡ from_of (links_of n') e
  pub to : (e : ℕ) → to_of (links_of n) e ≡ to_of (links_of n') e
  pub closed : (e : ℕ) → closed_in n e ≡ closed_in n' e

-- Their weights compare alike for every two link numbers.
abbrev pub WeighAlike : {K K' : Type 0} → Weighing K → Weighing K' → Network K → Network K' → Type 0
WeighAlike kind kind' n n' = Alike kind.scale kind'.scale (weights_of kind n) (weights_of kind' n') (length (links_of n))

-- Two runs bring the same: lists, answers, and what the receivers hold.
pub record SameRun (after after' : List Turn) (held held' : List ℕ) : Type 0 where
  pub lists : asked after ≡ asked after'
  pub answers : heard after ≡ heard after'
  pub holding : held ≡ held'
