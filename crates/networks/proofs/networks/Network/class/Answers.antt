use Rattle.networks.specs.Networks.{network_graph, weights_of}
use Rattle.networks.proofs.Asked.{class_asked}
use Rattle.networks.proofs.networks.Network.class.Goals as goal

pub returns-clause-answers : goal.returns-clause-answers
returns-clause-answers g c =
    let k = g.K.WeightKind in
    let n = c.args.self.now in
    class_asked c.plan.result (network_graph n) c.plan.ensures.graph k.weighing.scale g.met.K.WeightKind.lawful
    (weights_of k.weighing n) c.plan.ensures.alike c.args.link c.class_in.result c.class_in.ensures
