use Rattle.std.proofs.Common.{Decides, ap, ◌∙◌, subst}
use Rattle.forests.specs.Graphs.{Graph, SitesJoined}
use Rattle.cheapest.specs.Plans.{graph_of}
use Rattle.cheapest.specs.declared.plan.Plan.{Plan}
use Rattle.networks.proofs.networks.Network.sites_joined.Goals as goal

pub returns : goal.returns
returns g c =
    subst (λ (h : Graph). Decides c.joined.result (SitesJoined h)) (ap (λ (p : Plan). graph_of p) c.new.ensures.plan ∙ c.plan.ensures.graph)
    c.joined.ensures.joined
