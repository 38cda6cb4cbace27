use Rattle.std.proofs.Common.{rules, ◌≡◌, Bool, not, cond, count_by, arith}
use borrow.Author.Tests.{tests}
use Rattle.std.proofs.lemmas.Iterator.{YieldsList-from_slice, YieldsList-from_map}
use Rattle.std.proofs.lemmas.Iterator.Consumers.{YieldsList-at, sum_by_from_yields_List, fits_by_from_yields_list}
use Rattle.std.proofs.lemmas.List.Sums.{count_by-le-length}
use Rattle.networks.specs.declared.links.Link.{Link}
use Rattle.networks.proofs.plans.mark.Goals as goal

pub sum-requires-clause-fits : goal.sum-requires-clause-fits
sum-requires-clause-fits g c =
    let k = g.K.WeightKind in
    let links = c.args.links.now in
    let lighter : Link g.row.K.Denot → Bool = λ x. not (k.weighing.scale.le (k.weighing.amount c.args.link.now.weight) (k.weighing.amount x.weight)) in
    fits_by_from_yields_list (λ x. cond (lighter x) 1 0) links c.map.result _
    (YieldsList-from_map _ (λ x. cond (lighter x) 1 0) (YieldsList-at c.map.ensures.source (YieldsList-from_slice links cc)) c.map.ensures.closure (λ x r q h. search (rules, tests)))
    (let bound = c.iter.ensures.bound in omega (arith, count_by-le-length lighter links))

pub returns-clause-inside : goal.returns-clause-inside
returns-clause-inside g c =
    let k = g.K.WeightKind in
    let links = c.args.links.now in
    let lighter : Link g.row.K.Denot → Bool = λ x. not (k.weighing.scale.le (k.weighing.amount c.args.link.now.weight) (k.weighing.amount x.weight)) in
    let total : c.sum.result ≡ count_by lighter links =
    sum_by_from_yields_List (λ x. cond (lighter x) 1 0) links c.map.result _ c.sum.ensures.ran
    (YieldsList-from_map _ (λ x. cond (lighter x) 1 0) (YieldsList-at c.map.ensures.source (YieldsList-from_slice links cc)) c.map.ensures.closure (λ x r q h. search (rules, tests))) in
    omega (arith, total, count_by-le-length lighter links)
