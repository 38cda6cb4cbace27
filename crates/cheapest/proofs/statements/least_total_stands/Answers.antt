use Rattle.cheapest.proofs.Theorems.{least}
use Rattle.cheapest.proofs.statements.least_total_stands.Goals as goal

pub returns : goal.returns
returns g c = least g.K.WeightKind.weighing.scale g.met.K.WeightKind.lawful
