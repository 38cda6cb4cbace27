-- Networks of metres that are given link by link.
use Rattle.std.specs.Prelude.{◌≡◌, ℕ, false, List, map}
use Rattle.forests.specs.Graphs.{Graph}
use Rattle.weights.specs.Weighings.{by_metres}
use Rattle.weights.specs.declared.metres.Metres.{Metres}
use Rattle.networks.specs.Networks.{sites_of, links_of, closed_in, network_graph, weights_of}
use Rattle.networks.specs.declared.links.Link.{Link}
use Rattle.networks.specs.declared.networks.Network.{Network}

-- A link as it is drawn: its two ends and its metres.
abbrev pub Drawn : Type 0
Drawn = ℕ × ℕ × ℕ

-- What is drawn of a link.
abbrev pub drawn_as : Link Metres → Drawn
drawn_as link = (link.from, link.to, by_metres.amount link.weight)

-- The network has so many sites and these links, in the order of their numbers, and all are open.
pub record Draws (sites : ℕ) (links : List Drawn) (n : Network Metres) : Type 0 where
  pub sites_are : sites_of n ≡ sites
  pub links_are : map drawn_as (links_of n) ≡ links
  pub all_open : (e : ℕ) → closed_in n e ≡ false

-- A statement on graphs with metres holds of every network that is so drawn.
abbrev pub HoldsDrawn : ℕ → List Drawn → (Graph → (ℕ → ℕ) → Type 0) → Type 0
HoldsDrawn sites links P = (n : Network Metres) → Draws sites links n → P (network_graph n) (weights_of by_metres n)
