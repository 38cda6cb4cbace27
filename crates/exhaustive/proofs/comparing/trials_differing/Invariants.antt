use Rattle.std.proofs.Common.{◌≡◌, ◌≤◌}
use Rattle.networks.specs.Networks.{links_of}
use Rattle.exhaustive.proofs.comparing.trials_differing.Given as goal

abbrev pub invariant-loop-link : goal.invariant-loop-link
invariant-loop-link l = record { few : l.different ≤ l.link; leaves : links_of l.network ≡ links_of l.initial.network }
