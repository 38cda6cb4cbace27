use Rattle.forests.proofs.LabelLists.{labelled}
use Rattle.forests.proofs.labelled_stands.Goals as goal

pub returns : goal.returns
returns c = labelled
