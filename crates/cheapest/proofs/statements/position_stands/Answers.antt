use Rattle.cheapest.proofs.Theorems.{position}
use Rattle.cheapest.proofs.statements.position_stands.Goals as goal

pub returns : goal.returns
returns g c = position g.K.WeightKind.weighing.scale g.met.K.WeightKind.lawful
