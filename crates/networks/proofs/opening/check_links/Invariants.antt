use Rattle.std.proofs.Common.{◌≡◌, drop}
use Rattle.networks.specs.Opening.{link_rules}
use Rattle.networks.specs.Refusals.{first_of}
use Rattle.networks.proofs.opening.check_links.Given as goal

-- no link so far is refused
abbrev pub invariant-loop-number : goal.invariant-loop-number
invariant-loop-number g l =
    first_of (link_rules l.sites 0 l.links) ≡ first_of (link_rules l.sites l.number (drop l.number l.links))
