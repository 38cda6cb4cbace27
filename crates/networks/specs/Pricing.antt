-- When a row has no price.
use Rattle.std.specs.Prelude.{◌≡◌, ℕ, ◌+◌, ◌<◌, not, ◌||◌, List, [], ◌∷◌, length, Some, None, nat_le, nat_lt, slice_index}
use Rattle.networks.specs.Refusals.{Rule, at, first_of}
use Rattle.networks.specs.declared.refusals.Layer.TheVariants.{Network}

-- entry by entry, the first of them standing at this index: a 64th entry, or one that is no number of the m records
abbrev pub price_rules : ℕ → ℕ → List ℕ → List Rule
price_rules m index [] = []
price_rules m index (entry ∷ row) = (nat_le 63 index || not (nat_lt entry m), at Network 14 index) ∷ price_rules m (index + 1) row

-- the entry at this index is one of the first 63, and the number of a record
abbrev pub Priced : ℕ → List ℕ → ℕ → Type 0
Priced m row k = (k < 63) × (slice_index row k < m)

-- Nothing else is refused, and of faulty entries the first.
pub record PricingLaws : Type 0 where
  pub accepts : (m : ℕ) (row : List ℕ) → ((k : ℕ) → k < length row → Priced m row k) → first_of (price_rules m 0 row) ≡ None
  pub first : (m : ℕ) (row : List ℕ) (k : ℕ) → first_of (price_rules m 0 row) ≡ Some (at Network 14 k) → (k < length row) × (Priced m row k → ⊥) × ((j : ℕ) → j < k → Priced m row j)
