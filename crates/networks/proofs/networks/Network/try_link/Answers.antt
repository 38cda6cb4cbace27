use Rattle.std.proofs.Common.{◌≡◌, ℕ, Decides, sym, ap, ◌∙◌, subst}
use Rattle.forests.specs.Graphs.{Graph, SitesJoined}
use Rattle.networks.specs.Links.{open_below}
use Rattle.networks.specs.Networks.{network_graph, weights_of}
use Rattle.networks.specs.Trials.{without}
use Rattle.networks.proofs.Asked.{first_asked}
use Rattle.networks.proofs.networks.Network.try_link.Goals as goal

pub try_closed-requires-clause-open : goal.try_closed-requires-clause-open
try_closed-requires-clause-open g c =
    let p = c.plan-plan.result in
    let n = c.args.self.now in
    let same = c.plan-plan.ensures.graph in
    let links : p.count ≡ (network_graph n).links = ap (λ (h : Graph). h.links) same in
    λ e. ap (λ (h : Graph). h.usable e) same ∙ ap (λ (m : ℕ). open_below n.closed m e) (sym links)

pub returns-clause-joined : goal.returns-clause-joined
returns-clause-joined g c =
    subst (λ (h : Graph). Decides c.try_closed.result (SitesJoined (without h c.args.link))) c.plan-plan.ensures.graph c.try_closed.ensures.joined

pub returns-clause-writes : goal.returns-clause-writes
returns-clause-writes g c =
    let k = g.K.WeightKind in
    let n = c.args.self.now in
    first_asked c.plan-plan.result (network_graph n) c.plan-plan.ensures.graph k.weighing.scale g.met.K.WeightKind.lawful (weights_of k.weighing n) c.plan-plan.ensures.alike
    c.args.link c.try_closed.result c.args.list.now c.try_closed.new.list c.try_closed.ensures.writes
