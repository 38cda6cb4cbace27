-- The worked examples.
use Rattle.std.specs.Prelude.{◌≡◌, ℕ, ◌≤◌, true, false, ◌↔◌, List, [], ◌∷◌, map, length}
use Rattle.forests.specs.Lists.{In}
use Rattle.weights.specs.Amounts.{numbers, pairs}
use Rattle.weights.specs.Scales.{sum_of}
use Rattle.cheapest.specs.Trees.{FullList}
use Rattle.networks.specs.Classes.{HasClass}
use Rattle.networks.specs.declared.classes.Class.{Class}
use Rattle.networks.specs.declared.classes.Class.TheVariants.{Never, Always, Sometimes}
use Rattle.receivers.specs.Keeping.{keeping}
use Rattle.receivers.specs.Rules.{Rule}
use Rattle.worked.specs.Brought.{Brings}
use Rattle.worked.specs.Drawn.{Drawn, HoldsDrawn}
use Rattle.worked.specs.Samples.{sample, sample_rows, triangle, twins, rivals, one_site_calls, two_sites_calls, sample_calls, keeper_calls, seek_calls}
use Rattle.walks.specs.Substitutes.{Substitutes}

-- The full list of every network with so many sites and these links.
abbrev pub Lists : ℕ → List Drawn → List (List ℕ) → Type 0
Lists sites links rows = HoldsDrawn sites links (λ g w. FullList g numbers w rows)

-- The class of link e in every such network.
abbrev pub Classed : ℕ → List Drawn → ℕ → Class → Type 0
Classed sites links e class = HoldsDrawn sites links (λ g w. HasClass g numbers w e class)

-- The total of the row in every such network.
abbrev pub Totals : ℕ → List Drawn → List ℕ → ℕ → Type 0
Totals sites links row total = HoldsDrawn sites links (λ g w. sum_of numbers (map w row) ≡ total)

-- The substitutes of link e in the row are these links, in every such network.
abbrev pub Substituted : ℕ → List Drawn → List ℕ → ℕ → List ℕ → Type 0
Substituted sites links row e others = HoldsDrawn sites links (λ g w. (f : ℕ) → Substitutes g numbers w row e f ↔ In f others)

pub record WorkedExamples : Type 0 where
  -- one site and no link: one cheapest tree, which has no link
  pub one_site_lists : Lists 1 [] ([] ∷ [])
  -- two sites and no link: none
  pub two_sites_lists : Lists 2 [] []
  -- the sample network: five rows
  pub sample_lists : Lists 4 sample sample_rows
  -- the triangle: its short side with each of the others
  pub triangle_lists : Lists 3 triangle ((0 ∷ 1 ∷ []) ∷ (0 ∷ 2 ∷ []) ∷ [])
  -- parallel links of one length: each is a row, the lower number first
  pub twins_list : Lists 2 twins ((0 ∷ []) ∷ (1 ∷ []) ∷ [])
  -- parallel links, the second longer: one row
  pub rivals_list : Lists 2 rivals ((0 ∷ []) ∷ [])
  -- one site: next gives the empty row, and then none follows
  pub one_site_walk : (list : List ℕ) (rule : Rule) (start : List ℕ) → Brings 1 [] rule start (one_site_calls list) start
  -- two sites: no row can be given
  pub two_sites_walk : (list : List ℕ) → 1 ≤ length list → (rule : Rule) (start : List ℕ) → Brings 2 [] rule start (two_sites_calls list) start
  -- the sample network from the first row to the last, and on
  pub sample_walk : (list : List ℕ) → 3 ≤ length list → (rule : Rule) (start : List ℕ) → Brings 4 sample rule start (sample_calls list) start
  -- a keeper of seven places takes one row of the sample network, as its length and its entries
  pub sample_kept : (list : List ℕ) → 3 ≤ length list → Brings 4 sample (keeping 7) [] (keeper_calls list) (3 ∷ 3 ∷ 0 ∷ 1 ∷ [])
  -- rows of the sample network are sought
  pub sample_sought : (list : List ℕ) → 3 ≤ length list → (rule : Rule) (start : List ℕ) → Brings 4 sample rule start (seek_calls list) start
  -- a cheapest tree of the sample network costs 5, and the row 0 1 4 costs 6
  pub sample_price : Totals 4 sample (3 ∷ 0 ∷ 1 ∷ []) 5
  pub dearer_price : Totals 4 sample (0 ∷ 1 ∷ 4 ∷ []) 6
  -- in the sample network link 3 is in every cheapest tree, and each other link in some
  pub sample_class_0 : Classed 4 sample 0 Sometimes
  pub sample_class_1 : Classed 4 sample 1 Sometimes
  pub sample_class_2 : Classed 4 sample 2 Sometimes
  pub sample_class_3 : Classed 4 sample 3 Always
  pub sample_class_4 : Classed 4 sample 4 Sometimes
  -- in the row 3 0 1 of the sample network, 2 and 4 can take the place of 1, and no link that of 3
  pub sample_substitutes_1 : Substituted 4 sample (3 ∷ 0 ∷ 1 ∷ []) 1 (2 ∷ 4 ∷ [])
  pub sample_substitutes_3 : Substituted 4 sample (3 ∷ 0 ∷ 1 ∷ []) 3 []
  -- of two parallel links of two lengths the shorter is in every cheapest tree, the longer in none
  pub rivals_class_0 : Classed 2 rivals 0 Always
  pub rivals_class_1 : Classed 2 rivals 1 Never
  -- no crossings and 900 metres come before one crossing and 10 metres
  pub crossings_decide : (pairs numbers numbers).le (0, 900) (1, 10) ≡ true
  pub crossings_differ : (pairs numbers numbers).le (1, 10) (0, 900) ≡ false
