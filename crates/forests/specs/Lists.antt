-- Membership in a list, and lists in an order.
use Rattle.std.specs.Prelude.{◌≡◌, ℕ, ◌<◌, ◌⊎◌, List, [], ◌∷◌}

-- x stands in the list.
abbrev pub In : {A : Type 0} → A → List A → Type 0
In x [] = ⊥
In x (y ∷ ys) = (x ≡ y) ⊎ In x ys

-- Whatever stands in xs stands in ys.
abbrev pub Within : {A : Type 0} → List A → List A → Type 0
Within {A} xs ys = (x : A) → In x xs → In x ys

-- Nothing stands in the list twice.
abbrev pub Different : {A : Type 0} → List A → Type 0
Different [] = Unit {0}
Different (x ∷ xs) = (In x xs → ⊥) × Different xs

-- Each member is related by R to every later one.
abbrev pub Ordered : {A : Type 0} → (A → A → Type 0) → List A → Type 0
Ordered R [] = Unit {0}
Ordered {A} R (x ∷ xs) = ((y : A) → In y xs → R x y) × Ordered R xs

-- The key of each member is below the key of every later one.
abbrev pub Rising : (ℕ → ℕ) → List ℕ → Type 0
Rising key xs = Ordered (λ x y. key x < key y) xs
