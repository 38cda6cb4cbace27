use Rattle.cheapest.proofs.Classes.{in_some_stands}
use Rattle.cheapest.proofs.statements.in_some_stands.Goals as goal

pub returns : goal.returns
returns g c = in_some_stands g.K.WeightKind.weighing.scale g.met.K.WeightKind.lawful
