-- Sums of amounts, one more at a time.
use Rattle.std.proofs.Common.{◌≡◌, List, [], ◌∷◌, ◌++◌, sym, ap, ◌∙◌}
use Rattle.weights.specs.Scales.{Scale, Lawful, sum_of}

module _ (s : Scale) (laws : Lawful s) where
  -- one amount more at the end
  pub sum_push : (xs : List s.Amount) (a : s.Amount) → sum_of s (xs ++ a ∷ []) ≡ s.add (sum_of s xs) a
  sum_push [] a = laws.unit a ∙ sym (laws.comm s.zero a ∙ laws.unit a)
  sum_push (x ∷ xs) a = ap (s.add x) (sum_push xs a) ∙ sym (laws.assoc x (sum_of s xs) a)
