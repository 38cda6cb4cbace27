use Rattle.forests.proofs.Labelling.{chains_exchange}
use Rattle.forests.proofs.exchange_stands.Goals as goal

pub returns : goal.returns
returns c = chains_exchange
