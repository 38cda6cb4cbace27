-- The rules of a price, entry by entry.
use Rattle.std.proofs.Common.{◌≡◌, ℕ, ◌+◌, ◌<◌, List, map, length, get_or, take, ap, ◌∙◌}
use Rattle.std.proofs.lemmas.List.{take_more, map_push}
use Rattle.weights.specs.Scales.{Scale, Lawful, sum_of}
use Rattle.weights.proofs.Sums.{sum_push}

module _ (s : Scale) (laws : Lawful s) (w : ℕ → s.Amount) where
  -- the sum of a row's front, one entry more
  pub sum_more : (row : List ℕ) (index : ℕ) (old new a : s.Amount) → index < length row → old ≡ sum_of s (map w (take index row)) → new ≡ s.add old a → w (get_or row index 0) ≡ a → new ≡ sum_of s (map w (take (index + 1) row))
  sum_more row index old new a l front adds weight =
      let longer : sum_of s (map w (take (index + 1) row)) ≡ s.add (sum_of s (map w (take index row))) (w (get_or row index 0)) =
      ap (λ xs. sum_of s (map w xs)) (take_more row index 0 l)
      ∙ ap (sum_of s) (map_push w (take index row) (get_or row index 0))
      ∙ sum_push s laws (map w (take index row)) (w (get_or row index 0)) in
      cc
