use Rattle.std.proofs.Common.{◌≡◌, map, take}
use Rattle.weights.specs.Scales.{sum_of}
use Rattle.networks.specs.Links.{weight_of}
use Rattle.networks.proofs.pricing.sum_row.Given as goal

-- the total is that of the entries so far
abbrev pub invariant-loop-entry : goal.invariant-loop-entry
invariant-loop-entry g l =
    let k = g.K.WeightKind in
    (k.held l.total ≡ l.entry-index)
    × k.level l.total
    × (k.sum l.total ≡ sum_of k.weighing.scale (map (weight_of k.weighing l.links) (take l.entry-index l.row)))
