-- The theorems on forests, as statements.
use Rattle.std.specs.Prelude.{◌≡◌, ℕ, ◌+◌, ◌<◌, ◌≤◌, ◌⊎◌, ◌↔◌, List, ◌∷◌, length, slice_index}
use Rattle.forests.specs.Lists.{Within, Rising}
use Rattle.forests.specs.Graphs.{Joined, Spans, Inside, JoinsAll, Graph, Fits, ClosesRing, SpanningTree, Allowed, SitesJoined}
use Rattle.forests.specs.Closures.{Indep, Free, picks}
use Rattle.forests.specs.Labels.{labels, spanned}

-- Where the link f was needed to join the ends of e, e serves as well to join the ends of f.
abbrev pub Exchange : Type 0
Exchange = (from to : ℕ → ℕ) (S : List ℕ) (e f : ℕ) → Spans from to (f ∷ S) e → Spans from to S e ⊎ Spans from to (e ∷ S) f

-- A forest that joins all of n sites has n - 1 links.
abbrev pub ForestSize : Type 0
ForestSize = (from to : ℕ → ℕ) (n : ℕ) (S : List ℕ) → 0 < n → Inside from to n S → Indep (Spans from to) S
    → JoinsAll from to n S → length S + 1 ≡ n

-- A forest of n - 1 links joins all of n sites.
abbrev pub ForestJoins : Type 0
ForestJoins = (from to : ℕ → ℕ) (n : ℕ) (S : List ℕ) → Inside from to n S → Indep (Spans from to) S
    → length S + 1 ≡ n → JoinsAll from to n S

-- The spanning trees of a graph are its forests of n - 1 usable links.
abbrev pub TreesAreForests : Type 0
TreesAreForests = (g : Graph) → Fits g → (S : List ℕ)
    → SpanningTree g S ↔ (Indep (ClosesRing g) S × Allowed g S × (length S + 1 ≡ g.sites))

-- The sites of a graph are joined if and only if it has a spanning tree.
abbrev pub JoinedTree : Type 0
JoinedTree = (g : Graph) → Fits g → SitesJoined g ↔ ((S : List ℕ) × SpanningTree g S)

-- Two sites have one label in the list of labels if and only if they are joined.
abbrev pub Labelled : Type 0
Labelled = (from to : ℕ → ℕ) (n : ℕ) (S : List ℕ) (u v : ℕ) → Inside from to n S → u < n → v < n
    → (slice_index (labels from to n S) u ≡ slice_index (labels from to n S) v) ↔ Joined from to S u v

-- The greedy completion of a forest F is lowest. Let the candidates rise by a key. Whatever else rises
-- by the key and could be put upon F is no longer, and has no lower key at any position.
abbrev pub CompletionLowest : Type 0
CompletionLowest = (from to key : ℕ → ℕ) (F cs ts : List ℕ) → Rising key cs → Rising key ts → Within ts cs
    → Indep (Spans from to) F → Free (Spans from to) F ts
    → (length ts ≤ length (picks (spanned from to) F cs))
    × ((i : ℕ) → i < length ts → key (slice_index (picks (spanned from to) F cs) i) ≤ key (slice_index ts i))
