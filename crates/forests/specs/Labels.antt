-- Labels of sites: two sites have one label if and only if they are joined.
use Rattle.std.specs.Prelude.{ℕ, zero, suc, Bool, cond, List, [], ◌∷◌, ◌++◌, map, ◌==◌, nat_eq, slice_index}
use Rattle.forests.specs.Counts.{count}
use Rattle.forests.specs.Graphs.{Graph}

-- The label q in place of the label p.
abbrev pub relabel : ℕ → ℕ → ℕ → ℕ
relabel p q x = cond (x == p) q x

-- The label of site u: at first the site itself, and with each link the label of its one end gives
-- way to the label of its other end. Two sites have one label if and only if they are joined.
abbrev pub find : (ℕ → ℕ) → (ℕ → ℕ) → List ℕ → ℕ → ℕ
find from to [] u = u
find from to (f ∷ S) u = relabel (find from to S (from f)) (find from to S (to f)) (find from to S u)

-- The ends of link e have one label, so e would close a ring.
abbrev pub spanned : (ℕ → ℕ) → (ℕ → ℕ) → List ℕ → ℕ → Bool
spanned from to S e = find from to S (from e) == find from to S (to e)

-- The same for a graph.
abbrev pub closes_ring : Graph → List ℕ → ℕ → Bool
closes_ring g = spanned g.from g.to

-- The numbers below n, in their order.
abbrev pub below : ℕ → List ℕ
below zero = []
below (suc n) = below n ++ (n ∷ [])

-- The labels of the sites below n, as a list.
abbrev pub labels : (ℕ → ℕ) → (ℕ → ℕ) → ℕ → List ℕ → List ℕ
labels from to n [] = below n
labels from to n (f ∷ S) = map (relabel (slice_index (labels from to n S) (from f)) (slice_index (labels from to n S) (to f))) (labels from to n S)

-- How many sites below n are their own label: there is one such in each component.
abbrev pub roots : (ℕ → ℕ) → ℕ → ℕ
roots label n = count (λ u. nat_eq (label u) u) n
