use Rattle.cheapest.proofs.Theorems.{first_row}
use Rattle.cheapest.proofs.statements.first_row_stands.Goals as goal

pub returns : goal.returns
returns g c = first_row g.K.WeightKind.weighing.scale g.met.K.WeightKind.lawful
