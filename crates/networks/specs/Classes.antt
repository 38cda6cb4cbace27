-- The class of a link, and how many links have a class.
use Rattle.std.specs.Prelude.{◌≡◌, ℕ, ◌<◌, not, ◌||◌, ◌↔◌, List, [], ◌∷◌, length, IfOk, ◌==◌, nat_lt, Result}
use Rattle.forests.specs.Graphs.{Graph}
use Rattle.forests.specs.Lists.{In, Different}
use Rattle.weights.specs.Scales.{Scale}
use Rattle.cheapest.specs.Classes.{InSome, InEvery}
use Rattle.networks.specs.Refusals.{Rule, at, first_of, refusal_of}
use Rattle.networks.specs.declared.classes.Class.{Class}
use Rattle.networks.specs.declared.classes.Class.TheVariants.{Never, Always, Sometimes}
use Rattle.networks.specs.declared.refusals.Layer.TheVariants.{Network}
use Rattle.networks.specs.declared.refusals.Refusal.{Refusal}

-- Link e has the class: never, if no cheapest tree has it; always, if there are cheapest trees with it
-- and all have it; sometimes, if some has it and not all have.
abbrev pub HasClass : (g : Graph) (s : Scale) → (ℕ → s.Amount) → ℕ → Class → Type 0
HasClass g s w e Never = InSome g s w (e ∷ []) → ⊥
HasClass g s w e Always = InSome g s w (e ∷ []) × InEvery g s w e
HasClass g s w e Sometimes = InSome g s w (e ∷ []) × (InEvery g s w e → ⊥)

-- The letter of each class.
abbrev pub letter_of : Class → ℕ
letter_of Never = 78
letter_of Always = 65
letter_of Sometimes = 83

-- A link is asked about that is not there.
abbrev pub link_asked : ℕ → ℕ → List Rule
link_asked m e = (not (nat_lt e m), at Network 11 e) ∷ []

-- The letter is no class's.
abbrev pub letter_asked : ℕ → List Rule
letter_asked letter = (not (letter == letter_of Always || (letter == letter_of Sometimes || letter == letter_of Never)), at Network 12 0) ∷ []

-- A letter is read as the class that has it, or refused where none has.
abbrev pub Reads : ℕ → Result Class Refusal → Type 0
Reads letter r = (refusal_of r ≡ first_of (letter_asked letter)) × IfOk r (λ c. letter_of c ≡ letter)

-- Exactly k of the numbers below m have the property P.
pub record Counted (P : ℕ → Type 0) (m k : ℕ) : Type 0 where
  pub members : List ℕ
  pub different : Different members
  pub exactly : (e : ℕ) → In e members ↔ ((e < m) × P e)
  pub many : length members ≡ k
