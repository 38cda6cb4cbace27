use Rattle.forests.specs.Graphs.{SitesJoined}
use Rattle.walks.proofs.Runs.{kept_push}
use Rattle.walks.proofs.theorems.runs_grow_stands.Goals as goal

pub returns : goal.returns
returns c = λ g L size rule start held held' events e here' once kept step. kept_push L size (SitesJoined g) rule start once held held' events e here' kept step
