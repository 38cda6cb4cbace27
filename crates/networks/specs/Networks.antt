-- What a network holds.
use Rattle.std.specs.Prelude.{ℕ, Bool, List, length, take}
use Rattle.forests.specs.Graphs.{Graph}
use Rattle.weights.specs.Scales.{Weighing}
use Rattle.networks.specs.Links.{weight_of, from_of, to_of, open_below}
use Rattle.networks.specs.Closures.{closed_at}
use Rattle.networks.specs.declared.links.Link.{Link}
use Rattle.networks.specs.declared.networks.Network.{Network}
use Rattle.networks.specs.declared.orders.RankOrder.{RankOrder}

module _ {K : Type 0} where
  abbrev pub sites_of : Network K → ℕ
  sites_of n = n.sites

  -- the link records, by number
  abbrev pub links_of : Network K → List (Link K)
  links_of n = take n.count n.links

  -- the amount of each link's weight, by the link's number
  abbrev pub weights_of : (kind : Weighing K) → Network K → ℕ → kind.scale.Amount
  weights_of kind n = weight_of kind (links_of n)

  abbrev pub closed_in : Network K → ℕ → Bool
  closed_in n e = closed_at n.closed e

  -- the graph of a network: its open links may be chosen
  abbrev pub network_graph : Network K → Graph
  network_graph n = record {
    sites = sites_of n;
    links = length (links_of n);
    from = from_of (links_of n);
    to = to_of (links_of n);
    usable = open_below n.closed (length (links_of n));
  }

-- the link numbers in rank order
abbrev pub numbers_of : RankOrder → List ℕ
numbers_of r = take r.count r.numbers
