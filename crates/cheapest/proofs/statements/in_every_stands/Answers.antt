use Rattle.cheapest.proofs.Closings.{in_every_stands}
use Rattle.cheapest.proofs.statements.in_every_stands.Goals as goal

pub returns : goal.returns
returns g c = in_every_stands g.K.WeightKind.weighing.scale g.met.K.WeightKind.lawful
