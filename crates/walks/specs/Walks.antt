-- Where a walk stands, and what it has to do with the weights of its network.
use Rattle.std.specs.Prelude.{◌≡◌, ℕ, ◌-◌, cond, List, [], length, Some, None, Option}
use Rattle.weights.specs.Amounts.{numbers}
use Rattle.weights.specs.Scales.{Weighing}
use Rattle.cheapest.specs.Plans.{graph_of, mark_of}
use Rattle.cheapest.specs.Positions.{plan_of, is_on, row_of}
use Rattle.cheapest.specs.Ranks.{Alike}
use Rattle.cheapest.specs.Trees.{FullList}
use Rattle.cheapest.specs.declared.enumeration.Rows.{Rows}
use Rattle.cheapest.specs.declared.plan.Plan.{Plan}
use Rattle.networks.specs.Networks.{sites_of, links_of, network_graph, weights_of}
use Rattle.networks.specs.declared.networks.Network.{Network}
use Rattle.walks.specs.declared.walks.Walk.{Walk}

-- The row that a walk through rows is on, or None before the list.
abbrev pub place_in : Rows → Option (List ℕ)
place_in rows = cond (is_on rows) (Some (row_of rows)) None

-- The row at a place; before the list it is empty.
abbrev pub row_at : Option (List ℕ) → List ℕ
row_at None = []
row_at (Some row) = row

-- L is the full list of the plan.
abbrev pub ListedBy : Plan → List (List ℕ) → Type 0
ListedBy p L = FullList (graph_of p) numbers (mark_of p) L

module _ {K : Type 0} where
  -- The network that is walked through.
  abbrev pub network_of : Walk K → Network K
  network_of walk = walk.network

  -- The row that the walk is on, or None before the list.
  abbrev pub place_of : Walk K → Option (List ℕ)
  place_of walk = place_in walk.rows

  -- The entries of a row of the network: one less than it has sites.
  abbrev pub row_size : Network K → ℕ
  row_size n = sites_of n - 1

  -- L is the full list of the network.
  abbrev pub Listed : (kind : Weighing K) → Network K → List (List ℕ) → Type 0
  Listed kind n L = FullList (network_graph n) kind.scale (weights_of kind n) L

-- The network has exactly one full list.
pub record OneList {K : Type 0} (kind : Weighing K) (n : Network K) : Type 0 where
  pub full : List (List ℕ)
  pub listed : Listed kind n full
  pub only : (L : List (List ℕ)) → Listed kind n L → L ≡ full

-- The walk was begun on its network: it compares links as the network's weights do (that it goes through the
-- network's graph is in its type). Begin gives this and every call keeps it, so it holds of every walk.
pub record Begun {K : Type 0} (kind : Weighing K) (walk : Walk K) : Type 0 where
  pub alike : Alike numbers kind.scale (mark_of (plan_of walk.rows)) (weights_of kind (network_of walk)) (length (links_of (network_of walk)))
