-- Rows in their order, listings of them, and the row that comes next.
use Rattle.std.specs.Prelude.{◌≡◌, ℕ, ◌<◌, ◌⊎◌, List, [], ◌∷◌}
use Rattle.forests.specs.Lists.{In, Ordered}

-- A row is a list of links that rises by a key. These are the words for rows in their order.

-- Row r comes before row r': they are equal up to a position, and there r has the lower key.
abbrev pub Earlier : (ℕ → ℕ) → List ℕ → List ℕ → Type 0
Earlier key [] ys = ⊥
Earlier key (x ∷ xs) [] = ⊥
Earlier key (x ∷ xs) (y ∷ ys) = (key x < key y) ⊎ ((x ≡ y) × Earlier key xs ys)

-- L lists all rows that have the property P, and no others, each before the later ones.
pub record Listing (key : ℕ → ℕ) (P : List ℕ → Type 0) (L : List (List ℕ)) : Type 0 where
  pub sound : (r : List ℕ) → In r L → P r
  pub whole : (r : List ℕ) → P r → In r L
  pub listed : Ordered (Earlier key) L

-- Among the rows that have the property P, r is the next after here.
pub record Next (key : ℕ → ℕ) (P : List ℕ → Type 0) (here r : List ℕ) : Type 0 where
  pub member : P r
  pub later : Earlier key here r
  pub none_between : (r' : List ℕ) → P r' → Earlier key here r' → Earlier key r' r → ⊥

-- No row that has the property P comes after here.
abbrev pub NoneAfter : (ℕ → ℕ) → (List ℕ → Type 0) → List ℕ → Type 0
NoneAfter key P here = (r' : List ℕ) → P r' → Earlier key here r' → ⊥
