-- One link for another in the row of a cheapest tree.
use Rattle.std.specs.Prelude.{◌≡◌, ℕ, ◌≤◌, List, ◌∷◌, ◌++◌}
use Rattle.weights.specs.Amounts.{numbers}
use Rattle.forests.specs.Lists.{In}
use Rattle.cheapest.specs.Ranks.{rank}
use Rattle.cheapest.specs.Completions.{sorted}
use Rattle.cheapest.specs.Plans.{graph_of, mark_of}
use Rattle.cheapest.specs.Positions.{CheapestIn}
use Rattle.cheapest.specs.declared.plan.Plan.{Plan}

-- Another link f stands in for link e of the row: with f in place of e it is again a cheapest tree's.
pub record StandsIn (p : Plan) (row : List ℕ) (e f : ℕ) : Type 0 where
  pub other : f ≡ e → ⊥
  pub swaps : (front back : List ℕ) → row ≡ front ++ (e ∷ back) → CheapestIn p (sorted (rank (graph_of p) numbers (mark_of p)) (f ∷ (front ++ back)))

-- The link e is in the row, and of all links that stand in for it f has the lowest rank.
pub record FirstStandIn (p : Plan) (row : List ℕ) (e f : ℕ) : Type 0 where
  pub chosen : In e row
  pub stands : StandsIn p row e f
  pub lowest : (h : ℕ) → StandsIn p row e h → rank (graph_of p) numbers (mark_of p) f ≤ rank (graph_of p) numbers (mark_of p) h
