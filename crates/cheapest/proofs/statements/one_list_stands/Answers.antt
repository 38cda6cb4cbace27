use Rattle.cheapest.proofs.Theorems.{one_list}
use Rattle.cheapest.proofs.statements.one_list_stands.Goals as goal

pub returns : goal.returns
returns g c = one_list g.K.WeightKind.weighing.scale g.met.K.WeightKind.lawful
