-- What sets of links reach, and the class of a link by the trees.
use Rattle.std.specs.Prelude.{ℕ, ◌+◌, ◌-◌, ◌^◌, Bool, not, ◌&&◌, ◌==◌, List, fold, bit_and, bit_or, count_ones, if◌then◌else◌}
use Rattle.std.specs.List.{list_any, list_all}
use Rattle.networks.specs.declared.classes.Class.{Class}
use Rattle.networks.specs.declared.classes.Class.TheVariants.{Never, Always, Sometimes}
use Rattle.exhaustive.specs.declared.cases.Drawn.{Drawn}
use Rattle.exhaustive.specs.Sets.{has}

-- the two sites of a link, as a set
abbrev pub ends_of : Drawn → ℕ
ends_of link = bit_or (2 ^ link.from) (2 ^ link.to)

-- the sites reached when each link of the set is followed once from these
abbrev pub follow : List Drawn → (set from : ℕ) → ℕ
follow links set from =
    fold (λ sites (link : Drawn). if has set link.number && not (bit_and sites (ends_of link) == 0) then bit_or sites (ends_of link) else sites) from links

-- the sites that chains of links of the set reach from site 0, where there are four
abbrev pub reach : List Drawn → (set : ℕ) → ℕ
reach links set = follow links set (follow links set (follow links set (follow links set 1)))

-- the set is one of open links, one less than there are sites, and they join all sites
abbrev pub spans : List Drawn → (sites opened set : ℕ) → Bool
spans links sites opened set = count_ones set + 1 == sites && (bit_and set opened == set && reach links set == 2 ^ sites - 1)

-- the class of the link of this number, by the trees that are the cheapest
abbrev pub class_in : (number : ℕ) (trees : List ℕ) → Class
class_in number trees =
    if list_any (λ tree. has tree number) trees then (if list_all (λ tree. has tree number) trees then Always else Sometimes) else Never
