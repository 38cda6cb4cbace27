use Rattle.forests.specs.Graphs.{Spans}
use Rattle.forests.specs.Labels.{spanned}
use Rattle.forests.proofs.Dominance.{dominance}
use Rattle.forests.proofs.Labelling.{chains}
use Rattle.forests.proofs.completion_lowest_stands.Goals as goal

pub returns : goal.returns
returns c from to key = dominance (Spans from to) (spanned from to) (chains from to) key
