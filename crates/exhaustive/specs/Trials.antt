-- What a trial must say.
use Rattle.std.specs.Prelude.{List, ⊤}
use Rattle.exhaustive.specs.declared.cases.Drawn.{Drawn}
use Rattle.exhaustive.specs.declared.comparing.Trial.{Trial}
use Rattle.exhaustive.specs.declared.comparing.Trial.TheVariants.{Refused, Apart, Joined}

-- the fact holds of the row, where the sites are still joined
abbrev pub IfJoined : Trial → (List Drawn → Type 0) → Type 0
IfJoined Refused P = ⊤
IfJoined Apart P = ⊤
IfJoined (Joined row) P = P row.items
