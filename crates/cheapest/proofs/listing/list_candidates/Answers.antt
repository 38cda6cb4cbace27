use Rattle.std.proofs.Common.{replicate, refl, arith}
use Rattle.cheapest.specs.Places.{no_candidate}
use Rattle.cheapest.proofs.Selection.{selected_none, selected_in, selected_out, selected_free, selected_owed}
use Rattle.cheapest.proofs.listing.list_candidates.Goals as goal
use Rattle.cheapest.proofs.listing.list_candidates.Goals.{then-link, else-link}

pub loop-number-init : goal.loop-number-init
loop-number-init c = selected_none c.args.plan (replicate 512 no_candidate) refl

pub offset_bounds-items-count : goal.offset_bounds-items-count
offset_bounds-items-count c = let free = selected_free c.args.plan c.loop-number.invariant c.loop-number-test.true in omega arith

pub loop-number-preserved : goal.loop-number-preserved
loop-number-preserved c = elim c.if-link.branch [
  | then-link w ↦ selected_in c.args.plan c.loop-number.invariant c.loop-number-test.true w.if-link.true w.items-is w.count-is
  | else-link w ↦ selected_out c.args.plan c.loop-number.invariant c.loop-number-test.true w.if-link.false w.items-is w.count-is
]

pub invariant_of-result : goal.invariant_of-result
invariant_of-result c = selected_owed c.args.plan c.loop-number.invariant (let e = c.loop-number.auto.number-index-end in let t = c.loop-number-test.false in omega arith)
