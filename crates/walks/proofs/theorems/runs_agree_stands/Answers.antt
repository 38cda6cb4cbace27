use Rattle.forests.specs.Graphs.{SitesJoined}
use Rattle.walks.proofs.Agreeing.{kept_same}
use Rattle.walks.proofs.theorems.runs_agree_stands.Goals as goal

pub returns : goal.returns
returns c = λ g g' L size rule start held held' events events' once empty joined.
    kept_same L size rule once (SitesJoined g) (SitesJoined g') joined.0 joined.1 empty start held held' events events'
