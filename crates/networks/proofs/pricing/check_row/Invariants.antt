use Rattle.std.proofs.Common.{◌≡◌, ℕ, ◌<◌, drop}
use Rattle.networks.specs.Pricing.{price_rules, Priced}
use Rattle.networks.specs.Refusals.{first_of}
use Rattle.networks.proofs.pricing.check_row.Given as goal

-- no entry so far is refused
abbrev pub invariant-loop-index : goal.invariant-loop-index
invariant-loop-index l =
    (first_of (price_rules l.records 0 l.row) ≡ first_of (price_rules l.records l.index (drop l.index l.row)))
    × ((k : ℕ) → k < l.index → Priced l.records l.row k)
