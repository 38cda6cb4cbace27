-- Scales of amounts, and the laws that every scale keeps.
use Rattle.std.specs.Prelude.{◌≡◌, Bool, true, false, ◌⊎◌, List, [], ◌∷◌}

-- amounts that are compared and added: le a b says that a is at most b
pub record Scale : Type 1 where
  pub Amount : Type 0
  pub zero : Amount
  pub add : Amount → Amount → Amount
  pub le : Amount → Amount → Bool

-- what the weights of a kind mean: each has an amount on the kind's scale
pub record Weighing (W : Type 0) : Type 1 where
  pub scale : Scale
  pub amount : W → scale.Amount

-- a linear order, and an addition in any order and bracketing that keeps it strictly
pub record Lawful (s : Scale) : Type 0 where
  -- of two amounts one is at most the other
  pub total : (a b : s.Amount) → (s.le a b ≡ true) ⊎ (s.le b a ≡ true)
  -- two amounts that are at most one another are the same amount
  pub antisym : (a b : s.Amount) → s.le a b ≡ true → s.le b a ≡ true → a ≡ b
  pub trans : (a b c : s.Amount) → s.le a b ≡ true → s.le b c ≡ true → s.le a c ≡ true
  -- zero adds nothing
  pub unit : (a : s.Amount) → s.add a s.zero ≡ a
  pub comm : (a b : s.Amount) → s.add a b ≡ s.add b a
  pub assoc : (a b c : s.Amount) → s.add (s.add a b) c ≡ s.add a (s.add b c)
  -- an amount less than another stays less when the same amount is added to both: a is less than b where b is not at most a
  pub strict : (a b c : s.Amount) → s.le b a ≡ false → s.le (s.add b c) (s.add a c) ≡ false

-- the sum of a list of amounts
abbrev pub sum_of : (s : Scale) → List s.Amount → s.Amount
sum_of s [] = s.zero
sum_of s (a ∷ rest) = s.add a (sum_of s rest)
