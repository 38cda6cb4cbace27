use Rattle.cheapest.proofs.Theorems.{successor}
use Rattle.cheapest.proofs.statements.successor_stands.Goals as goal

pub returns : goal.returns
returns g c = successor g.K.WeightKind.weighing.scale g.met.K.WeightKind.lawful
