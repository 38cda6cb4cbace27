use Rattle.forests.proofs.Size.{forest_size}
use Rattle.forests.proofs.forest_size_stands.Goals as goal

pub returns : goal.returns
returns c = forest_size
