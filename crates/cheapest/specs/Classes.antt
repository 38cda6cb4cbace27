-- Links in some cheapest tree, links in every one, and links that stand in for one another: the words and
-- the statements of the theorems that let one completion decide each question.
use Rattle.std.specs.Prelude.{◌≡◌, ℕ, ◌+◌, Bool, true, false, not, ◌&&◌, ◌↔◌, List, ◌∷◌, ◌++◌, map, length, nat_eq}
use Rattle.forests.specs.Lists.{In, Within}
use Rattle.forests.specs.Closures.{Indep, push}
use Rattle.forests.specs.Graphs.{Graph, Fits, ClosesRing, Allowed}
use Rattle.weights.specs.Scales.{Scale, sum_of}
use Rattle.cheapest.specs.Ranks.{rank}
use Rattle.cheapest.specs.Trees.{Cheapest}
use Rattle.cheapest.specs.Completions.{sorted, completion, first}

-- The graph with some of its links closed.
abbrev pub closing : Graph → (ℕ → Bool) → Graph
closing g closed = record { sites = g.sites; links = g.links; from = g.from; to = g.to; usable = λ e. g.usable e && not (closed e) }

-- All links of F stand together in the row of some cheapest tree.
abbrev pub InSome : (g : Graph) (s : Scale) → (ℕ → s.Amount) → List ℕ → Type 0
InSome g s w F = (r : List ℕ) × Cheapest g s w r × Within F r

-- Some cheapest tree does without the closed links.
abbrev pub Avoidable : (g : Graph) (s : Scale) → (ℕ → s.Amount) → (ℕ → Bool) → Type 0
Avoidable g s w closed = (r : List ℕ) × Cheapest g s w r × ((e : ℕ) → In e r → closed e ≡ false)

-- Link e stands in the row of every cheapest tree.
abbrev pub InEvery : (g : Graph) (s : Scale) → (ℕ → s.Amount) → ℕ → Type 0
InEvery g s w e = (r : List ℕ) → Cheapest g s w r → In e r

-- The list xs has a total no higher than the first row's, and the first row is a spanning tree's.
abbrev pub Reaches : (g : Graph) (s : Scale) → (ℕ → s.Amount) → List ℕ → Type 0
Reaches g s w xs = (length (first g s w) + 1 ≡ g.sites) × (s.le (sum_of s (map w xs)) (sum_of s (map w (first g s w))) ≡ true)

-- The links of a forest F are in some cheapest tree if and only if F with its completion has the least total.
abbrev pub InSomeStands : Scale → Type 0
InSomeStands s = (g : Graph) → Fits g → (w : ℕ → s.Amount) (F : List ℕ) → Indep (ClosesRing g) F → Allowed g F
    → InSome g s w F ↔ Reaches g s w (push F (completion g s w F))

-- Some cheapest tree does without the closed links if and only if the first row without them is a
-- spanning tree's and has the least total.
abbrev pub AvoidableStands : Scale → Type 0
AvoidableStands s = (g : Graph) → Fits g → (w : ℕ → s.Amount) (closed : ℕ → Bool)
    → Avoidable g s w closed ↔ ((length (first (closing g closed) s w) + 1 ≡ g.sites) × Reaches g s w (first (closing g closed) s w))

-- A link is in every cheapest tree if and only if none does without it.
abbrev pub InEveryStands : Scale → Type 0
InEveryStands s = (g : Graph) (w : ℕ → s.Amount) (e : ℕ) → InEvery g s w e ↔ (Avoidable g s w (λ x. nat_eq x e) → ⊥)

-- Take a link e out of the row of a cheapest tree, and put in a usable link f that closes no ring with
-- the rest: the result is a cheapest tree's if and only if f has the amount of e.
abbrev pub SubstituteStands : Scale → Type 0
SubstituteStands s = (g : Graph) → Fits g → (w : ℕ → s.Amount) (front back : List ℕ) (e f : ℕ) → Cheapest g s w (front ++ (e ∷ back))
    → Allowed g (f ∷ (front ++ back)) → (ClosesRing g (front ++ back) f → ⊥)
    → Cheapest g s w (sorted (rank g s w) (f ∷ (front ++ back))) ↔ (w f ≡ w e)
