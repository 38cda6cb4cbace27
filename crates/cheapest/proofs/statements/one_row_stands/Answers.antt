use Rattle.cheapest.proofs.Theorems.{rows_are_one}
use Rattle.cheapest.proofs.statements.one_row_stands.Goals as goal

pub returns : goal.returns
returns g c = rows_are_one g.K.WeightKind.weighing.scale g.met.K.WeightKind.lawful
