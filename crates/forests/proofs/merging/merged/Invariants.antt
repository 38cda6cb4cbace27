use Rattle.std.proofs.Common.{◌≡◌, ℕ, ◌<◌, ◌≤◌, get_or}
use Rattle.forests.specs.Labels.{relabel}
use Rattle.forests.proofs.merging.merged.Given as goal

-- the sites so far have their new labels, and the others their old ones
abbrev pub invariant-loop-label : goal.invariant-loop-label
invariant-loop-label l =
    ((u : ℕ) → u < l.label-index → get_or l.label-items u 0 ≡ relabel l.gone l.stays (get_or l.fn.labels u 0))
    × ((u : ℕ) → l.label-index ≤ u → get_or l.label-items u 0 ≡ get_or l.fn.labels u 0)
