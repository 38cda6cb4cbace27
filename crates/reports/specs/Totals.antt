-- The total of each row, and its text.
use Rattle.std.specs.Prelude.{◌≡◌, ℕ, ◌<◌, List, map, length, Some, None, Option, MatchOption, codes}
use Rattle.weights.specs.Scales.{sum_of, Weighing}
use Rattle.networks.specs.Links.{weight_of}
use Rattle.networks.specs.Networks.{links_of}
use Rattle.networks.specs.Pricing.{Priced}
use Rattle.networks.specs.declared.links.Link.{Link}
use Rattle.walks.specs.Walks.{network_of, place_of, row_at}
use Rattle.walks.specs.declared.walks.Walk.{Walk}

-- a dash where there is none
abbrev pub total_text : {T : Type 0} (text : T → List ℕ) → Option T → List ℕ
total_text text None = codes "-"
total_text text (Some t) = text t

module _ {K : Type 0} where
  -- every entry of the row is one of the first 63, and the number of a link
  abbrev pub AllPriced : List (Link K) → List ℕ → Type 0
  AllPriced links row = (k : ℕ) → k < length row → Priced (length links) row k

  module _ (kind : Weighing K) {T : Type 0} (sum : T → kind.scale.Amount) where
    -- the total is the row's, if the row has one
    abbrev pub TotalOf : List (Link K) → List ℕ → Option T → Type 0
    TotalOf links row total = AllPriced links row → MatchOption total ⊥ (λ t. sum t ≡ sum_of kind.scale (map (weight_of kind links) row))

    -- the total of each of so many rows: none where there is no row, else the total of the walk's row
    abbrev pub EachOf : Walk K → ℕ → Option T → Type 0
    EachOf walk count total = (count ≡ 0 → total ≡ None) × (0 < count → TotalOf (links_of (network_of walk)) (row_at (place_of walk)) total)
