-- The full lists of the worked examples.
use Rattle.std.proofs.Common.{◌≡◌, ℕ, ◌+◌, true, List, [], ◌∷◌, length, refl, arith}
use Rattle.weights.specs.Amounts.{numbers}
use Rattle.cheapest.specs.Completions.{first}
use Rattle.cheapest.specs.Trees.{FullList}
use Rattle.worked.specs.Drawn.{Drawn}
use Rattle.worked.specs.Samples.{sample, sample_rows, triangle, twins, rivals}
use Rattle.worked.proofs.Chains.{Chain, chain_lists, short_lists}
use Rattle.worked.proofs.Drawings.{drawn_graph, drawn_metres, inside, drawn_fits}

abbrev pub ListsDrawn : ℕ → List Drawn → List (List ℕ) → Type 0
ListsDrawn sites links rows = FullList (drawn_graph sites links) numbers (drawn_metres links) rows

by_chain : (sites : ℕ) (links : List Drawn) (r : List ℕ) (rows : List (List ℕ)) → inside sites links ≡ true → first (drawn_graph sites links) numbers (drawn_metres links) ≡ r
    → length r + 1 ≡ sites → Chain (drawn_graph sites links) (drawn_metres links) r rows → ListsDrawn sites links (r ∷ rows)
by_chain sites links r rows fits = chain_lists (drawn_graph sites links) (drawn_metres links) (drawn_fits sites links fits) r rows

pub one_site_lists : ListsDrawn 1 [] ([] ∷ [])
one_site_lists = by_chain 1 [] [] [] refl refl refl refl

pub two_sites_lists : ListsDrawn 2 [] []
two_sites_lists = short_lists (drawn_graph 2 []) (drawn_metres []) (drawn_fits 2 [] refl) (λ e. omega arith)

pub sample_lists : ListsDrawn 4 sample sample_rows
sample_lists = by_chain 4 sample (3 ∷ 0 ∷ 1 ∷ []) _ refl refl refl (refl, (refl, (refl, (refl, refl))))

pub triangle_lists : ListsDrawn 3 triangle ((0 ∷ 1 ∷ []) ∷ (0 ∷ 2 ∷ []) ∷ [])
triangle_lists = by_chain 3 triangle (0 ∷ 1 ∷ []) _ refl refl refl (refl, refl)

pub twins_list : ListsDrawn 2 twins ((0 ∷ []) ∷ (1 ∷ []) ∷ [])
twins_list = by_chain 2 twins (0 ∷ []) _ refl refl refl (refl, refl)

pub rivals_list : ListsDrawn 2 rivals ((0 ∷ []) ∷ [])
rivals_list = by_chain 2 rivals (0 ∷ []) _ refl refl refl refl
