-- Where a walk through the full list of a plan stands, and what its steps promise.
use Rattle.std.specs.Prelude.{◌≡◌, ℕ, ◌+◌, ◌<◌, Bool, true, false, cond, List, [], length, take, slice_index}
use Rattle.weights.specs.Amounts.{numbers}
use Rattle.forests.specs.Graphs.{SpanningTree, SitesJoined}
use Rattle.cheapest.specs.Ranks.{rank}
use Rattle.cheapest.specs.Rows.{Earlier}
use Rattle.cheapest.specs.Trees.{Cheapest, Follows, NoneFollows}
use Rattle.cheapest.specs.Plans.{graph_of, mark_of}
use Rattle.cheapest.specs.declared.plan.Plan.{Plan}
use Rattle.cheapest.specs.declared.enumeration.Rows.{Rows}

-- The plan that is walked through.
abbrev pub plan_of : Rows → Plan
plan_of rows = rows.list.plan

-- Whether the walk is on a row; otherwise it is before the full list.
abbrev pub is_on : Rows → Bool
is_on rows = rows.on

-- The row that the walk is on; before the full list there is none.
abbrev pub row_of : Rows → List ℕ
row_of rows = cond rows.on (take rows.size rows.row) []

-- The row of a cheapest tree of the plan.
abbrev pub CheapestIn : Plan → List ℕ → Type 0
CheapestIn p r = Cheapest (graph_of p) numbers (mark_of p) r

-- The plan has a spanning tree.
abbrev pub HasTree : Plan → Type 0
HasTree p = (S : List ℕ) × SpanningTree (graph_of p) S

-- The first row of the full list.
pub record Begins (p : Plan) (r : List ℕ) : Type 0 where
  pub member : CheapestIn p r
  pub none_before : (r' : List ℕ) → CheapestIn p r' → Earlier (rank (graph_of p) numbers (mark_of p)) r' r → ⊥

-- A walk that stands at `before` steps forward and stands at `after`: from before the list to the first
-- row, and from a row to the row that follows.
pub record Steps (before after : Rows) : Type 0 where
  pub on : is_on after ≡ true
  pub begins : is_on before ≡ false → Begins (plan_of before) (row_of after)
  pub follows : is_on before ≡ true → Follows (graph_of (plan_of before)) numbers (mark_of (plan_of before)) (row_of before) (row_of after)

-- A walk cannot step forward: there is no spanning tree, so that the sites are not joined, or no row follows the one
-- that it is on.
pub record Stops (before : Rows) : Type 0 where
  pub no_tree : is_on before ≡ false → HasTree (plan_of before) → ⊥
  pub not_joined : is_on before ≡ false → SitesJoined (graph_of (plan_of before)) → ⊥
  pub no_row : is_on before ≡ true → NoneFollows (graph_of (plan_of before)) numbers (mark_of (plan_of before)) (row_of before)

-- The sites are joined, and the row has the size and the marks of the first row, position by position.
pub record Level (rows : Rows) (row : List ℕ) : Type 0 where
  pub joined : rows.size + 1 ≡ (plan_of rows).sites
  pub size : length row ≡ rows.size
  pub marks : (j : ℕ) → j < length row → mark_of (plan_of rows) (slice_index row j) ≡ slice_index rows.wanted j

-- Two states of a walk stand at the same place.
pub record SamePlace (before after : Rows) : Type 0 where
  pub on : is_on after ≡ is_on before
  pub row : row_of after ≡ row_of before
