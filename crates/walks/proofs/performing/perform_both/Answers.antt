use Rattle.walks.proofs.Alikes.{same_run}
use Rattle.walks.proofs.performing.perform_both.Goals as goal

pub returns-clause-alike : goal.returns-clause-alike
returns-clause-alike g c same alike rule held asked =
    let k = g.K.WeightKind in
    let m = g.M.WeightKind in
    same_run k.weighing m.weighing g.met.K.WeightKind.lawful g.met.M.WeightKind.lawful c.args.first c.args.second same alike _ _ _ _ _ _ _ _ _ _
    c.perform-one.ensures.promise.promised c.perform-two.ensures.promise.promised rule held asked
