use Rattle.std.proofs.Common.{◌≡◌, length}
use Rattle.cheapest.specs.Places.{no_link}
use Rattle.networks.proofs.Filled.{FilledTo}
use Rattle.networks.proofs.MarkedLinks.{marked}
use Rattle.networks.proofs.plans.marked_links.Given as goal

abbrev pub invariant-loop-number : goal.invariant-loop-number
invariant-loop-number g l =
    let k = g.K.WeightKind in
    (length l.places ≡ 512) × FilledTo no_link (marked k.weighing l.links l.closed) l.places l.number
