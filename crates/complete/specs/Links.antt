-- The links of a complete network, each one metre long.
use Rattle.std.specs.Prelude.{ℕ, zero, suc, List, [], ◌++◌, map}
use Rattle.std.specs.List.{range_with_len}
use Rattle.networks.specs.declared.links.Link.{Link}
use Rattle.weights.specs.declared.metres.Metres.{Metres}

-- The link between two sites.
abbrev pub between : ℕ → ℕ → Link Metres
between from to = record { from = from; to = to; weight = record { 0 = 1 } }

-- The links of a site to each that has a lower number, by that number.
abbrev pub links_back : ℕ → List (Link Metres)
links_back site = map (λ other. between other site) (range_with_len 0 site)

-- The links between the sites below this number: those of each site back, site by site.
abbrev pub links_below : ℕ → List (Link Metres)
links_below zero = []
links_below (suc site) = links_below site ++ links_back site
