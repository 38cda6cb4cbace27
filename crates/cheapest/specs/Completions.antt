-- Candidates in rank order, the greedy completion over them, the first row, and departures from a row.
use Rattle.std.specs.Prelude.{◌≡◌, ℕ, Bool, cond, List, [], ◌∷◌, ◌++◌, map, take, nat_le, nat_lt, slice_index}
use Rattle.forests.specs.Closures.{push, picks}
use Rattle.forests.specs.Graphs.{Graph}
use Rattle.forests.specs.Labels.{below, closes_ring}
use Rattle.weights.specs.Scales.{Scale}
use Rattle.cheapest.specs.Ranks.{rank}

-- The members of the list that pass the test.
abbrev pub passing : {A : Type 0} → (A → Bool) → List A → List A
passing test [] = []
passing test (x ∷ xs) = cond (test x) (x ∷ passing test xs) (passing test xs)

-- x put before the first number whose key is not below its own.
abbrev pub insert : (ℕ → ℕ) → ℕ → List ℕ → List ℕ
insert key x [] = x ∷ []
insert key x (y ∷ ys) = cond (nat_le (key x) (key y)) (x ∷ (y ∷ ys)) (y ∷ insert key x ys)

-- The list in rising order of the key.
abbrev pub sorted : (ℕ → ℕ) → List ℕ → List ℕ
sorted key [] = []
sorted key (x ∷ xs) = insert key x (sorted key xs)

-- The usable links of the graph in rising order of the key.
abbrev pub candidates : Graph → (ℕ → ℕ) → List ℕ
candidates g key = sorted key (passing g.usable (below g.links))

-- The candidates of a key above that of x.
abbrev pub above : (ℕ → ℕ) → ℕ → List ℕ → List ℕ
above key x cs = passing (λ c. nat_lt (key x) (key c)) cs

-- The row that keeps the first i links of r, leaves out the next, and is completed by later
-- candidates. It is put upon the links of F, which are chosen whatever the row.
abbrev pub departure : (List ℕ → ℕ → Bool) → (ℕ → ℕ) → List ℕ → List ℕ → List ℕ → ℕ → List ℕ
departure test key F cs r i = take i r ++ picks test (push F (take i r)) (above key (slice_index r i) cs)

-- The greedy completion of the links F by usable links of the graph, in rising order of rank.
abbrev pub completion : (g : Graph) (s : Scale) → (ℕ → s.Amount) → List ℕ → List ℕ
completion g s w F = picks (closes_ring g) F (candidates g (rank g s w))

-- The first row of a graph: the completion of nothing.
abbrev pub first : (g : Graph) (s : Scale) → (ℕ → s.Amount) → List ℕ
first g s w = completion g s w []

-- The row of a graph that departs from r at position i.
abbrev pub departs : (g : Graph) (s : Scale) → (ℕ → s.Amount) → List ℕ → ℕ → List ℕ
departs g s w r i = departure (closes_ring g) (rank g s w) [] (candidates g (rank g s w)) r i

-- The row that departs from r at i has the amounts of r at every position.
abbrev pub Good : (g : Graph) (s : Scale) → (ℕ → s.Amount) → List ℕ → ℕ → Type 0
Good g s w r i = map w (departs g s w r i) ≡ map w r
