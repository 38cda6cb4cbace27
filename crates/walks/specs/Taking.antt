-- Rows that a receiver's taking rule takes.
use Rattle.std.specs.Prelude.{◌≡◌, ℕ, true, false, List, [], ◌∷◌}
use Rattle.receivers.specs.Rules.{Rule, takes, held_after}

-- The rule takes the row.
abbrev pub Takes : Rule → List ℕ → List ℕ → Type 0
Takes rule held row = takes rule held row ≡ true

-- The rule does not take the row.
abbrev pub Declines : Rule → List ℕ → List ℕ → Type 0
Declines rule held row = takes rule held row ≡ false

-- Each row is taken in its turn.
abbrev pub AllTaken : Rule → List ℕ → List (List ℕ) → Type 0
AllTaken rule held [] = Unit {0}
AllTaken rule held (row ∷ rows) = Takes rule held row × AllTaken rule (held_after rule held row) rows
