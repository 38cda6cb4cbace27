use Rattle.cheapest.proofs.Substitutes.{substitute_stands}
use Rattle.cheapest.proofs.statements.substitute_stands.Goals as goal

pub returns : goal.returns
returns g c = substitute_stands g.K.WeightKind.weighing.scale g.met.K.WeightKind.lawful
