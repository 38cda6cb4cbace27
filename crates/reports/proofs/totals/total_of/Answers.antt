use Rattle.reports.proofs.Prices.{priced_total}
use Rattle.reports.proofs.totals.total_of.Goals as goal

pub returns : goal.returns
returns g c = λ priced. priced_total c.args.links.now c.args.row.now c.price.result _ c.price.ensures.refuses c.price.ensures.sums priced c.ok.result c.ok.ensures.value
