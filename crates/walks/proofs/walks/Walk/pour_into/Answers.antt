use Rattle.std.proofs.Common.{ℕ, sym, subst}
use Rattle.forests.specs.Graphs.{Graph, SitesJoined}
use Rattle.networks.specs.Networks.{network_graph}
use Rattle.walks.specs.Doing.{PourDoes}
use Rattle.walks.specs.Letters.{letter_of}
use Rattle.walks.specs.Walks.{place_in}
use Rattle.walks.proofs.FromPlans.{listed_by}
use Rattle.walks.proofs.walks.Walk.pour_into.Goals as goal

pub returns-clause-acts : goal.returns-clause-acts
returns-clause-acts g c =
    let ρ = g.R.Receiver in
    let walk = c.args.self.now in
    let r = c.args.receiver.now in
    let poured = c.pour_rows-count in
    let r' = poured.new.receiver in
    λ begun L full.
    subst (λ (letter : ℕ). PourDoes L (SitesJoined (network_graph walk.network)) (ρ.rule r) (place_in walk.rows) (ρ.held r) c.args.limit poured.result.0 letter (place_in poured.new.rows) (ρ.held r'))
    (sym c.letter.ensures)
    (subst (λ (h : Graph). PourDoes L (SitesJoined h) (ρ.rule r) (place_in walk.rows) (ρ.held r) c.args.limit poured.result.0 (letter_of poured.result.1) (place_in poured.new.rows) (ρ.held r'))
    walk.graph (poured.ensures.does L (listed_by walk g.K.WeightKind.weighing g.met.K.WeightKind.lawful begun L full)))
