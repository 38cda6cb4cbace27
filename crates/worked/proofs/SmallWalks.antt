-- The runs on one site and on two, call by call.
use Rattle.std.proofs.Common.{ℕ, ◌≤◌, List, [], ◌∷◌, ◌++◌, length, drop, Some, None, refl, inl, arith}
use Rattle.forests.specs.Graphs.{Graph, SitesJoined}
use Rattle.forests.proofs.Trees.{joined_tree}
use Rattle.weights.specs.Amounts.{numbers}
use Rattle.cheapest.specs.Trees.{FullList}
use Rattle.cheapest.proofs.Numbers.{numbers_lawful}
use Rattle.cheapest.proofs.Theorems.{first_row}
use Rattle.networks.specs.Refusals.{at}
use Rattle.networks.specs.declared.refusals.Layer.TheVariants.{Walk}
use Rattle.receivers.specs.Rules.{Rule}
use Rattle.walks.specs.Answering.{not_joined, no_row_follows, no_tree, letter_z}
use Rattle.walks.specs.Events.{Event, gives, refuses, pours}
use Rattle.walks.proofs.Listed.{listed_once}
use Rattle.walks.proofs.Steps.{step_gives, step_refuses, step_pours, poured_none}
use Rattle.worked.specs.Brought.{Brings}
use Rattle.worked.specs.Samples.{one_site_calls, two_sites_calls}
use Rattle.worked.proofs.Drawings.{drawn_graph, drawn_metres, drawn_fits}
use Rattle.worked.proofs.Going.{goes_brings}
use Rattle.worked.proofs.Listings.{one_site_lists, two_sites_lists}

-- where the full list has a row, the sites are joined
pub list_joins : (g : Graph) (w : ℕ → ℕ) (r : List ℕ) (rows : List (List ℕ)) → FullList g numbers w (r ∷ rows) → SitesJoined g
list_joins g w r rows full = let tree = (full.sound r (inl refl)).row.tree in let size = tree.size in (omega arith, r, tree.allowed, tree.joins)

-- next gave the row
abbrev pub given : List ℕ → List ℕ → Event
given list row = gives list (row ++ drop (length row) list) row

-- one site
module _ (list : List ℕ) (rule : Rule) (start : List ℕ) where
  pub one_site_walk : Brings 1 [] rule start (one_site_calls list) start
  one_site_walk =
      let J = SitesJoined (drawn_graph 1 []) in
      let L : List (List ℕ) = [] ∷ [] in
      let joined : J = list_joins (drawn_graph 1 []) (drawn_metres []) [] [] one_site_lists in
      goes_brings 1 [] L one_site_lists rule start start (given list [] ∷ refuses list list (at Walk 16 0) ∷ []) (
        step_gives L 0 J rule None start (listed_once _ _ L one_site_lists) list list [] (omega arith) joined ([], refl) refl,
        (step_refuses L 0 J rule (Some []) start list (at Walk 16 0) (no_row_follows (omega arith) joined ([], refl) refl), refl),
      )

-- two sites
not_joined_two : SitesJoined (drawn_graph 2 []) → ⊥
not_joined_two j =
    let tree = (joined_tree (drawn_graph 2 []) (drawn_fits 2 [] refl)).0 j in
    (first_row numbers numbers_lawful (drawn_graph 2 []) (drawn_fits 2 [] refl) (drawn_metres [])).2 (λ e. omega arith) tree.0 tree.1

module _ (list : List ℕ) (room : 1 ≤ length list) (rule : Rule) (start : List ℕ) where
  pub two_sites_walk : Brings 2 [] rule start (two_sites_calls list) start
  two_sites_walk =
      let J = SitesJoined (drawn_graph 2 []) in
      goes_brings 2 [] [] two_sites_lists rule start start (refuses list list (at Walk 15 0) ∷ pours 3 [] letter_z ∷ []) (
        step_refuses [] 1 J rule None start list (at Walk 15 0) (not_joined room not_joined_two refl),
        (step_pours [] 1 J rule None start 3 [] letter_z None start (poured_none [] 1 J rule None start ([], refl)) (omega arith) (no_tree (omega arith) not_joined_two refl), refl),
      )
