use Rattle.std.proofs.Common.{rules}
use Rattle.cheapest.proofs.walk.Walk.empty.Goals as goal

pub returns : goal.returns
returns c = λ u h. let t = c.from_fn-sites.ensures.items.at u 0 h in search (rules, t.2)
