use Rattle.cheapest.proofs.Theorems.{ranks_tell}
use Rattle.cheapest.proofs.statements.ranks_tell_stands.Goals as goal

pub returns : goal.returns
returns g c = ranks_tell g.K.WeightKind.weighing.scale g.met.K.WeightKind.lawful
