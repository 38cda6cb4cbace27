use Rattle.std.proofs.Common.{◌≡◌, ℕ, List, sym, ap, subst, MatchOption}
use Rattle.cheapest.specs.Positions.{plan_of, row_of}
use Rattle.cheapest.specs.StandIns.{StandsIn, FirstStandIn}
use Rattle.forests.specs.Lists.{In}
use Rattle.networks.specs.Networks.{network_graph, weights_of}
use Rattle.walks.specs.Walks.{row_at, place_of}
use Rattle.walks.proofs.Moves.{place_on}
use Rattle.walks.proofs.StandIns.{answered}
use Rattle.walks.proofs.walks.Walk.stand_in.Goals as goal

pub returns : goal.returns
returns g c begun =
    let k = g.K.WeightKind in
    let walk = c.args.self.now in
    let p = plan_of walk.rows in
    let link = c.args.link in
    let row : row_at (place_of walk) ≡ row_of walk.rows = ap row_at (place_on walk.rows c.requires.on) in
    answered p (network_graph walk.network) walk.graph k.weighing.scale g.met.K.WeightKind.lawful (weights_of k.weighing walk.network) begun.alike (row_at (place_of walk)) link
    c.substitute.result c.requires.inside
    (subst (λ (r : List ℕ). MatchOption c.substitute.result ((f : ℕ) → In link r → StandsIn p r link f → ⊥) (λ f. FirstStandIn p r link f)) (sym row) c.substitute.ensures)
