use Rattle.forests.proofs.Trees.{trees_are_forests}
use Rattle.forests.proofs.trees_are_forests_stands.Goals as goal

pub returns : goal.returns
returns c = trees_are_forests
