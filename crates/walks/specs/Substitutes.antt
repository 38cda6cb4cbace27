-- Substitutes: another link in place of one of the row.
use Rattle.std.specs.Prelude.{◌≡◌, ℕ, List, ◌∷◌, ◌++◌, Some, None, Option}
use Rattle.forests.specs.Graphs.{Graph}
use Rattle.forests.specs.Lists.{In}
use Rattle.weights.specs.Scales.{Scale}
use Rattle.cheapest.specs.Completions.{sorted}
use Rattle.cheapest.specs.Ranks.{rank}
use Rattle.cheapest.specs.Trees.{Cheapest}
use Rattle.networks.specs.Refusals.{Unless, at}
use Rattle.networks.specs.declared.refusals.Layer.TheVariants.{Walk}
use Rattle.networks.specs.declared.refusals.Report.{Report}

-- Another link f can take the place of link e of the row: with f for e, and in rank order, it is again the row of a
-- cheapest tree.
pub record Substitutes (g : Graph) (s : Scale) (w : ℕ → s.Amount) (row : List ℕ) (e f : ℕ) : Type 0 where
  pub other : f ≡ e → ⊥
  pub swaps : (front back : List ℕ) → row ≡ front ++ (e ∷ back) → Cheapest g s w (sorted (rank g s w) (f ∷ (front ++ back)))

-- An answer to the question for a substitute: one, or none if there is none.
abbrev pub Answers : (g : Graph) (s : Scale) → (ℕ → s.Amount) → List ℕ → ℕ → Option ℕ → Type 0
Answers g s w row e None = (f : ℕ) → Substitutes g s w row e f → ⊥
Answers g s w row e (Some f) = Substitutes g s w row e f

-- The question is refused before the walk is on a row, and for a link that is not in the row.
abbrev pub AskedFor : Option (List ℕ) → ℕ → Option Report → Type 0
AskedFor None e said = said ≡ Some (at Walk 17 0)
AskedFor (Some row) e said = Unless (In e row → ⊥) (at Walk 18 e) said (said ≡ None)
