use Rattle.std.proofs.Common.{ℕ, List, None, Option, subst}
use Rattle.forests.specs.Graphs.{SitesJoined}
use Rattle.weights.specs.Weighings.{by_metres}
use Rattle.weights.specs.declared.metres.Metres.{Metres}
use Rattle.networks.specs.Networks.{network_graph}
use Rattle.networks.specs.declared.networks.Network.{Network}
use Rattle.receivers.specs.Tallies.{tallied}
use Rattle.receivers.specs.Tallying.{tallying}
use Rattle.walks.specs.Doing.{PourDoes}
use Rattle.walks.specs.Walks.{Listed, place_of}
use Rattle.complete.proofs.pouring.pour_all.Goals as goal

pub returns : goal.returns
returns c =
    let begun = c.begin-walk.ensures in
    let held = tallied c.args.tally.now in
    let held' = tallied c.pour.new.receiver in
    let here = place_of c.pour.new.self in
    λ L. subst
    (λ (n : Network Metres). Listed by_metres n L → (here : Option (List ℕ)) × PourDoes L (SitesJoined (network_graph n)) tallying None held 4294967295 c.pour.result.0 c.pour.result.1 here held')
    begun.network
    (λ full. (
      here,
      subst (λ (from : Option (List ℕ)). PourDoes L (SitesJoined (network_graph c.begin-walk.result.network)) tallying from held 4294967295 c.pour.result.0 c.pour.result.1 here held') begun.before
          (c.pour.ensures.acts begun.begun L full),
    ))
