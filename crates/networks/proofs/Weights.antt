-- The amount of a link that was read from the records.
use Rattle.std.proofs.Common.{◌≡◌, ℕ, ◌<◌, List, length, get_or}
use Rattle.std.proofs.lemmas.List.{get_or-map}
use Rattle.weights.specs.Scales.{Weighing}
use Rattle.networks.specs.Links.{weight_of}
use Rattle.networks.specs.declared.links.Link.{Link}

pub weight_at : {W : Type 0} (kind : Weighing W) (links : List (Link W)) (e : ℕ) (d : Link W) → e < length links → weight_of kind links e ≡ kind.amount (get_or links e d).weight
weight_at kind links e d inside = get_or-map (λ l. kind.amount l.weight) links e d kind.scale.zero inside
