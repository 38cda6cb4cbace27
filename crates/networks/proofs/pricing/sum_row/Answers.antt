use Rattle.std.proofs.Common.{ℕ, ◌+◌, ◌<◌, get_or, sym, refl, ap, ◌∙◌, arith}
use Rattle.networks.specs.Links.{weight_of}
use Rattle.networks.proofs.Prices.{sum_more}
use Rattle.networks.proofs.Weights.{weight_at}
use Rattle.networks.proofs.pricing.sum_row.Goals as goal

pub loop-entry-preserved : goal.loop-entry-preserved
loop-entry-preserved g c =
    let k = g.K.WeightKind in
    let links = c.args.links.now in
    let row = c.args.row.now in
    let index = c.loop-entry.entry-index in
    let link = get_or row index 0 in
    let w : ℕ → k.weighing.scale.Amount = weight_of k.weighing links in
    let good = c.requires index c.loop-entry-test.true in
    let room : k.held c.loop-entry.total < 63 = (let h = c.loop-entry.invariant.0 in let b = good.0 in omega arith) in
    let weight = weight_at k.weighing links link c.index-links-entry.result good.1 in (
      c.add.ensures.counts room ∙ ap (λ n. n + 1) c.loop-entry.invariant.0,
      c.add.ensures.level c.loop-entry.invariant.1,
      sum_more k.weighing.scale g.met.K.WeightKind.lawful w row index (k.sum c.loop-entry.total) (k.sum c.add.new.total) (w link)
          c.loop-entry-test.true c.loop-entry.invariant.2 (c.add.ensures.adds room ∙ ap (k.weighing.scale.add (k.sum c.loop-entry.total)) (sym weight)) refl,
    )
