use Rattle.std.proofs.Common.{◌≡◌, ◌-◌}
use Rattle.exhaustive.specs.Choices.{networks_to}
use Rattle.exhaustive.proofs.comparing.compare_all.Given as goal

abbrev pub invariant-loop-sites : goal.invariant-loop-sites
invariant-loop-sites l = l.tally.networks ≡ networks_to (l.sites - 1)
