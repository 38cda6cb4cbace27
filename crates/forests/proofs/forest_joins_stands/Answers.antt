use Rattle.forests.proofs.Size.{forest_joins}
use Rattle.forests.proofs.forest_joins_stands.Goals as goal

pub returns : goal.returns
returns c = forest_joins
