-- The full list of a walk's network is that of the plan that the walk goes through.
use Rattle.std.proofs.Common.{ℕ, List, sym, subst}
use Rattle.forests.specs.Graphs.{Graph, Fits}
use Rattle.weights.specs.Amounts.{numbers}
use Rattle.weights.specs.Scales.{Lawful, Weighing}
use Rattle.cheapest.specs.Plans.{mark_of}
use Rattle.cheapest.specs.Positions.{plan_of}
use Rattle.cheapest.specs.Trees.{FullList}
use Rattle.cheapest.proofs.Listed.{plan_fits}
use Rattle.cheapest.proofs.Numbers.{numbers_lawful}
use Rattle.cheapest.proofs.SameRows.{same_rows}
use Rattle.networks.specs.Networks.{network_graph, weights_of}
use Rattle.walks.specs.Walks.{network_of, Listed, ListedBy, Begun}
use Rattle.walks.specs.declared.walks.Walk.{Walk}

module _ {K : Type 0} (walk : Walk K) where
  pub graph_fits : Fits (network_graph (network_of walk))
  graph_fits = subst Fits walk.graph (plan_fits (plan_of walk.rows))

  module _ (kind : Weighing K) (laws : Lawful kind.scale) (begun : Begun kind walk) where
    pub listed_by : (L : List (List ℕ)) → Listed kind (network_of walk) L → ListedBy (plan_of walk.rows) L
    listed_by L full =
        subst (λ (g : Graph). FullList g numbers (mark_of (plan_of walk.rows)) L) (sym walk.graph)
        (((same_rows numbers kind.scale numbers_lawful laws (network_graph (network_of walk)) graph_fits (mark_of (plan_of walk.rows)) (weights_of kind (network_of walk)) begun.alike).1 L).1 full)
