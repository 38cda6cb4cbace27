use Rattle.cheapest.proofs.SameRows.{same_rows}
use Rattle.cheapest.proofs.statements.same_rows_stand.Goals as goal

pub returns : goal.returns
returns g c = same_rows g.K.WeightKind.weighing.scale g.L.WeightKind.weighing.scale g.met.K.WeightKind.lawful g.met.L.WeightKind.lawful
