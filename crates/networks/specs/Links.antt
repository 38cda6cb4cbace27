-- What link records say.
use Rattle.std.specs.Prelude.{ℕ, Bool, true, not, ◌&&◌, List, [], ◌∷◌, map, ◌==◌, nat_lt, slice_index, slice_index_or}
use Rattle.weights.specs.Scales.{Scale, Weighing}
use Rattle.forests.specs.Counts.{count}
use Rattle.networks.specs.Closures.{closed_at}
use Rattle.networks.specs.declared.closed.Closed.{Closed}
use Rattle.networks.specs.declared.links.Link.{Link}

-- the amount of each link's weight, by the link's number
abbrev pub weight_of : {W : Type 0} (kind : Weighing W) → List (Link W) → ℕ → kind.scale.Amount
weight_of kind links e = slice_index_or (map (λ link. kind.amount link.weight) links) e kind.scale.zero

-- both ends of every link are sites, and different ones
abbrev pub sound : {W : Type 0} → ℕ → List (Link W) → Bool
sound sites [] = true
sound sites (link ∷ links) = (nat_lt link.from sites && (nat_lt link.to sites && not (link.from == link.to))) && sound sites links

-- the ends of each link, by the link's number
abbrev pub from_of : {W : Type 0} → List (Link W) → ℕ → ℕ
from_of links e = slice_index (map (λ link. link.from) links) e

abbrev pub to_of : {W : Type 0} → List (Link W) → ℕ → ℕ
to_of links e = slice_index (map (λ link. link.to) links) e

-- how many of the first m links have a lower amount than link e
abbrev pub lighter_than : (s : Scale) → (ℕ → s.Amount) → ℕ → ℕ → ℕ
lighter_than s w m e = count (λ x. not (s.le (w e) (w x))) m

-- link e is one of the first m, and open
abbrev pub open_below : Closed → ℕ → ℕ → Bool
open_below closed m e = nat_lt e m && not (closed_at closed e)
