-- Places in a list of rows, and the rows that come next from there. A place is before the list, which is
-- written None, or on one of its rows.
use Rattle.std.specs.Prelude.{◌≡◌, ℕ, List, [], ◌∷◌, ◌++◌, Some, None, Option}

-- The rows are the next members of the list from this place on, in order: from before the list, the list
-- begins with them; from a row, they stand right behind it.
abbrev pub NextMembers : List (List ℕ) → Option (List ℕ) → List (List ℕ) → Type 0
NextMembers L None rows = (after : List (List ℕ)) × (L ≡ rows ++ after)
NextMembers L (Some here) rows = (before : List (List ℕ)) × (after : List (List ℕ)) × (L ≡ before ++ (here ∷ (rows ++ after)))

-- The row comes next from this place.
abbrev pub Comes : List (List ℕ) → Option (List ℕ) → List ℕ → Type 0
Comes L here row = NextMembers L here (row ∷ [])

-- The place is on the last row of the list.
abbrev pub IsLast : List (List ℕ) → Option (List ℕ) → Type 0
IsLast L None = ⊥
IsLast L (Some here) = (before : List (List ℕ)) × (L ≡ before ++ (here ∷ []))

-- The place where one is when the rows have been gone through: on the last of them.
abbrev pub last_of : Option (List ℕ) → List (List ℕ) → Option (List ℕ)
last_of here [] = here
last_of here (row ∷ rows) = last_of (Some row) rows
