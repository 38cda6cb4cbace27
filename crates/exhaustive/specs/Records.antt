-- What the record of a link says.
use Rattle.std.specs.Prelude.{◌≡◌}
use Rattle.exhaustive.specs.declared.cases.Drawn.{Drawn}
use Rattle.networks.specs.declared.links.Link.{Link}
use Rattle.weights.specs.declared.metres.Metres.{Metres}

-- the record has the two sites of the link and its metres
abbrev pub IsRecord : Drawn → Link Metres → Type 0
IsRecord link r = (r.from ≡ link.from) × (r.to ≡ link.to) × (r.weight.0 ≡ link.metres)
