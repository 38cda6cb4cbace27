use Rattle.std.proofs.Common.{◌≡◌, vec_items}
use Rattle.complete.specs.Links.{links_below}
use Rattle.complete.proofs.links.complete.Given as goal

abbrev pub invariant-loop-site : goal.invariant-loop-site
invariant-loop-site l = vec_items l.links ≡ links_below l.site
