use Rattle.std.proofs.Common.{◌≤◌}
use Rattle.weights.specs.Amounts.{numbers}
use Rattle.cheapest.specs.Plans.{graph_of, mark_of}
use Rattle.networks.specs.Classes.{HasClass, Counted}
use Rattle.networks.proofs.classifying.count_in.Given as goal

abbrev pub invariant-loop-link : goal.invariant-loop-link
invariant-loop-link l = (l.count ≤ l.link) × Counted (λ e. HasClass (graph_of l.plan) numbers (mark_of l.plan) e l.class) l.link l.count
