use Rattle.networks.proofs.FirstFaults.{opening_laws}
use Rattle.networks.proofs.opening.opening_rules_stand.Goals as goal

pub returns : goal.returns
returns g c = opening_laws g.row.K.Denot
