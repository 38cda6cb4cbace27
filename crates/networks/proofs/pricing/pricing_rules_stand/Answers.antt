use Rattle.networks.proofs.FirstFaults.{pricing_laws}
use Rattle.networks.proofs.pricing.pricing_rules_stand.Goals as goal

pub returns : goal.returns
returns c = pricing_laws
