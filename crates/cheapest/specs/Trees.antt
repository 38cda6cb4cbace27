-- Rows of spanning trees, cheapest rows, the full list, and what follows a row.
use Rattle.std.specs.Prelude.{◌≡◌, ℕ, true, List, map}
use Rattle.forests.specs.Lists.{Rising}
use Rattle.forests.specs.Graphs.{Graph, SpanningTree}
use Rattle.weights.specs.Scales.{Scale, sum_of}
use Rattle.cheapest.specs.Ranks.{rank}
use Rattle.cheapest.specs.Rows.{Listing, Next, NoneAfter}

-- A spanning tree with its links in rising order of a key.
pub record Row (g : Graph) (key : ℕ → ℕ) (r : List ℕ) : Type 0 where
  pub tree : SpanningTree g r
  pub rises : Rising key r

-- The row, by rank, of a spanning tree such that every spanning tree has at least its total.
pub record Cheapest (g : Graph) (s : Scale) (w : ℕ → s.Amount) (r : List ℕ) : Type 0 where
  pub row : Row g (rank g s w) r
  pub least : (S : List ℕ) → SpanningTree g S → s.le (sum_of s (map w r)) (sum_of s (map w S)) ≡ true

-- The full list: the rows of all cheapest trees, each before the later ones.
abbrev pub FullList : (g : Graph) (s : Scale) → (ℕ → s.Amount) → List (List ℕ) → Type 0
FullList g s w L = Listing (rank g s w) (Cheapest g s w) L

-- r is the next row of a cheapest tree after here.
abbrev pub Follows : (g : Graph) (s : Scale) → (ℕ → s.Amount) → List ℕ → List ℕ → Type 0
Follows g s w here r = Next (rank g s w) (Cheapest g s w) here r

-- No row of a cheapest tree comes after here.
abbrev pub NoneFollows : (g : Graph) (s : Scale) → (ℕ → s.Amount) → List ℕ → Type 0
NoneFollows g s w here = NoneAfter (rank g s w) (Cheapest g s w) here
