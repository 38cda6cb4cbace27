use Rattle.cheapest.proofs.Closings.{avoidable_stands}
use Rattle.cheapest.proofs.statements.avoidable_stands.Goals as goal

pub returns : goal.returns
returns g c = avoidable_stands g.K.WeightKind.weighing.scale g.met.K.WeightKind.lawful
