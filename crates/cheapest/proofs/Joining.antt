-- The sites of a plan are joined if and only if it has a spanning tree, and that is so if and only if its
-- first row has one link less than there are sites.
use Rattle.std.proofs.Common.{◌≡◌, ◌+◌, length}
use Rattle.weights.specs.Amounts.{numbers}
use Rattle.forests.specs.Graphs.{SitesJoined}
use Rattle.forests.proofs.Trees.{joined_tree}
use Rattle.cheapest.specs.Plans.{graph_of, mark_of, first_of}
use Rattle.cheapest.specs.Positions.{HasTree, Begins}
use Rattle.cheapest.specs.declared.plan.Plan.{Plan}
use Rattle.cheapest.proofs.TreeRows.{first_size}
use Rattle.cheapest.proofs.Theorems.{first_row}
use Rattle.cheapest.proofs.Numbers.{numbers_lawful}
use Rattle.cheapest.proofs.Listed.{plan_fits}

module _ (p : Plan) where
  pub tree_size : HasTree p → length (first_of p) + 1 ≡ p.sites
  tree_size t = first_size (graph_of p) numbers numbers_lawful (mark_of p) (plan_fits p) t.0 t.1

  pub first_begins : length (first_of p) + 1 ≡ p.sites → Begins p (first_of p)
  first_begins size =
      let theorem-first = first_row numbers numbers_lawful (graph_of p) (plan_fits p) (mark_of p) in
      record { member = theorem-first.0 size; none_before = theorem-first.1 }

  pub size_tree : length (first_of p) + 1 ≡ p.sites → HasTree p
  size_tree size = (first_of p, (first_begins size).member.row.tree)

  pub joined_size : SitesJoined (graph_of p) → length (first_of p) + 1 ≡ p.sites
  joined_size h = tree_size ((joined_tree (graph_of p) (plan_fits p)).0 h)

  pub size_joined : length (first_of p) + 1 ≡ p.sites → SitesJoined (graph_of p)
  size_joined size = (joined_tree (graph_of p) (plan_fits p)).1 (size_tree size)
