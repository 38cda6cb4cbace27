use Rattle.std.proofs.Common.{rules, arith}
use Rattle.std.proofs.lemmas.Iterator.{YieldsList-from_map, YieldsList-from_range}
use Rattle.std.proofs.lemmas.Iterator.Adapters.{items_from_extend}
use Rattle.complete.specs.Links.{between}
use Rattle.complete.proofs.links.link_back.Goals as goal

pub returns : goal.returns
returns c =
    let h = items_from_extend c.extend.result c.extend.ensures.ran
    (YieldsList-from_map _ (λ other. between other c.args.site) (YieldsList-from_range 0 c.args.site c.args.site c.map.ensures.source (omega arith)) c.map.ensures.closure (λ x r q k. search rules)) in
    search rules
