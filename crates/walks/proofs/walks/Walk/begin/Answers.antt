use Rattle.walks.proofs.Alikes.{one_listed}
use Rattle.walks.proofs.walks.Walk.begin.Goals as goal

pub returns-clause-listed : goal.returns-clause-listed
returns-clause-listed g c =
    let k = g.K.WeightKind in
    one_listed k.weighing g.met.K.WeightKind.lawful c.args.network
