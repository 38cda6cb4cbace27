-- What a plan says: its graph, the marks of its links, its usable links in rank order, its first row.
use Rattle.std.specs.Prelude.{ℕ, List}
use Rattle.weights.specs.Amounts.{numbers}
use Rattle.forests.specs.Graphs.{Graph}
use Rattle.cheapest.specs.Ranks.{rank}
use Rattle.cheapest.specs.Completions.{candidates, first}
use Rattle.cheapest.specs.Places.{link_at}
use Rattle.cheapest.specs.declared.plan.Plan.{Plan}

abbrev pub graph_of : Plan → Graph
graph_of p = record {
  sites = p.sites;
  links = p.count;
  from = λ e. (link_at p.links e).from;
  to = λ e. (link_at p.links e).to;
  usable = λ e. (link_at p.links e).usable;
}

abbrev pub mark_of : Plan → ℕ → ℕ
mark_of p e = (link_at p.links e).mark

-- The usable links in rank order.
abbrev pub ranked_of : Plan → List ℕ
ranked_of p = candidates (graph_of p) (rank (graph_of p) numbers (mark_of p))

-- The first row.
abbrev pub first_of : Plan → List ℕ
first_of p = first (graph_of p) numbers (mark_of p)
