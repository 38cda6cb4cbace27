use Rattle.std.proofs.Common.{◌≡◌, ◌+◌, ◌*◌, ◌-◌, length}
use Rattle.exhaustive.specs.Choices.{lists_of}
use Rattle.exhaustive.proofs.comparing.+compare_extended.Given as goal

abbrev pub decreases-compare_extended : goal.decreases-compare_extended
decreases-compare_extended l = l.more

abbrev pub invariant-loop-choice : goal.invariant-loop-choice
invariant-loop-choice l = record {
  compares : l.tally.networks ≡ 1 + l.choice-index * lists_of (length l.choices) (l.more - 1);
  restores : (l.case.sites ≡ l.initial.case.sites) × (l.case.links.items ≡ l.initial.case.links.items);
}
