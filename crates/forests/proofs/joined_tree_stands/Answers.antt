use Rattle.forests.proofs.Trees.{joined_tree}
use Rattle.forests.proofs.joined_tree_stands.Goals as goal

pub returns : goal.returns
returns c = joined_tree
