use Rattle.std.proofs.Common.{◌-◌, subst}
use Rattle.forests.specs.Graphs.{Graph, SitesJoined}
use Rattle.networks.specs.Refusals.{refusal_of}
use Rattle.walks.specs.Doing.{NextDoes}
use Rattle.walks.specs.Walks.{place_in}
use Rattle.walks.proofs.FromPlans.{listed_by}
use Rattle.walks.proofs.walks.Walk.next.Goals as goal

pub returns-clause-acts : goal.returns-clause-acts
returns-clause-acts g c =
    let walk = c.args.self.now in
    λ begun L full. subst (λ (h : Graph). NextDoes L (h.sites - 1) (SitesJoined h) (place_in walk.rows) c.args.list.now c.next_row.new.list (refusal_of c.next_row.result) (place_in c.next_row.new.rows))
    walk.graph (c.next_row.ensures.does L (listed_by walk g.K.WeightKind.weighing g.met.K.WeightKind.lawful begun L full))
