-- The theorems on cheapest trees, as statements.
use Rattle.std.specs.Prelude.{◌≡◌, ℕ, ◌+◌, ◌<◌, ◌≤◌, true, ◌↔◌, List, map, length, ◌≢◌}
use Rattle.forests.specs.Lists.{Within}
use Rattle.forests.specs.Closures.{Indep, Free}
use Rattle.forests.specs.Graphs.{Graph, Fits, ClosesRing, Allowed, SpanningTree}
use Rattle.weights.specs.Scales.{Scale, sum_of}
use Rattle.cheapest.specs.Ranks.{rank_of, rank, Alike}
use Rattle.cheapest.specs.Rows.{Earlier}
use Rattle.cheapest.specs.Trees.{Row, Cheapest, FullList, Follows, NoneFollows}
use Rattle.cheapest.specs.Completions.{completion, first, departs, Good}

-- Each statement speaks of one scale, or of two, and holds for every lawful scale.

-- Below m no two links have one rank, and a link of no higher rank has no higher amount.
abbrev pub RanksTell : Scale → Type 0
RanksTell s = (w : ℕ → s.Amount) (m x y : ℕ) → x < m → y < m
    → (rank_of s w m x ≡ rank_of s w m y → x ≡ y) × (rank_of s w m x ≤ rank_of s w m y → s.le (w x) (w y) ≡ true)

-- The links of a spanning tree, in whatever order they are written, have exactly one row, and its
-- total is the tree's.
abbrev pub OneRow : Scale → Type 0
OneRow s = (g : Graph) → Fits g → (w : ℕ → s.Amount) (S : List ℕ) → SpanningTree g S
    → (r : List ℕ) × Row g (rank g s w) r × Within S r × Within r S × (sum_of s (map w r) ≡ sum_of s (map w S))
    × ((r' : List ℕ) → Row g (rank g s w) r' → Within S r' → Within r' S → r' ≡ r)

-- If the first row has n - 1 links it is the row of a cheapest tree, and no such row comes before it;
-- otherwise there is no spanning tree.
abbrev pub FirstRowStands : Scale → Type 0
FirstRowStands s = (g : Graph) → Fits g → (w : ℕ → s.Amount)
    → (length (first g s w) + 1 ≡ g.sites → Cheapest g s w (first g s w))
    × ((r : List ℕ) → Cheapest g s w r → Earlier (rank g s w) r (first g s w) → ⊥)
    × ((length (first g s w) + 1 ≢ g.sites) → (S : List ℕ) → SpanningTree g S → ⊥)

-- A row is a cheapest tree's if and only if it has the first row's amounts at every position.
abbrev pub Position : Scale → Type 0
Position s = (g : Graph) → Fits g → (w : ℕ → s.Amount) (r : List ℕ) → Row g (rank g s w) r
    → Cheapest g s w r ↔ (map w r ≡ map w (first g s w))

-- The completion of a forest F has the least total of all lists, as long as it, of usable links that
-- could be put upon F.
abbrev pub LeastTotal : Scale → Type 0
LeastTotal s = (g : Graph) (w : ℕ → s.Amount) (F xs : List ℕ) → Indep (ClosesRing g) F → Free (ClosesRing g) F xs → Allowed g xs
    → length xs ≡ length (completion g s w F) → s.le (sum_of s (map w (completion g s w F))) (sum_of s (map w xs)) ≡ true

-- After the row of a cheapest tree comes its good departure with the largest i, and if it has no good
-- departure it is the last.
abbrev pub Successor : Scale → Type 0
Successor s = (g : Graph) → Fits g → (w : ℕ → s.Amount) (r : List ℕ) → Cheapest g s w r
    → ((i : ℕ) → i < length r → Good g s w r i → ((j : ℕ) → i < j → j < length r → Good g s w r j → ⊥) → Follows g s w r (departs g s w r i))
    × (((i : ℕ) → i < length r → Good g s w r i → ⊥) → NoneFollows g s w r)

-- There is exactly one full list.
abbrev pub OneFullList : Scale → Type 0
OneFullList s = (g : Graph) → Fits g → (w : ℕ → s.Amount)
    → (L : List (List ℕ)) × FullList g s w L × ((L' : List (List ℕ)) → FullList g s w L' → L' ≡ L)

-- Amounts that compare alike, on whatever scales, make the same rows cheapest and give one full list.
abbrev pub SameRows : Scale → Scale → Type 0
SameRows s s' = (g : Graph) → Fits g → (w : ℕ → s.Amount) (w' : ℕ → s'.Amount) → Alike s s' w w' g.links
    → ((r : List ℕ) → Cheapest g s w r ↔ Cheapest g s' w' r) × ((L : List (List ℕ)) → FullList g s w L ↔ FullList g s' w' L)
