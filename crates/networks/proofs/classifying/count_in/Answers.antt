use Rattle.std.proofs.Common.{ℕ, ◌+◌, sym, subst, arith}
use Rattle.std.proofs.lemmas.Bool.{both_ways}
use Rattle.weights.specs.Amounts.{numbers}
use Rattle.cheapest.specs.Plans.{graph_of, mark_of}
use Rattle.networks.specs.Classes.{HasClass, Counted}
use Rattle.networks.proofs.Counted.{counted_none, counted_more, counted_same}
use Rattle.networks.proofs.classifying.count_in.Goals as goal
use Rattle.networks.proofs.classifying.count_in.Goals.{then-has_class, else-has_class}

pub loop-link-init : goal.loop-link-init
loop-link-init c = (omega arith, counted_none _)

pub loop-link-preserved : goal.loop-link-preserved
loop-link-preserved c =
    let p = c.args.plan.now in
    let P : ℕ → Type 0 = λ e. HasClass (graph_of p) numbers (mark_of p) e c.args.class in
    let link = c.loop-link.link in
    let before = c.loop-link.invariant.1 in
    elim c.if-has_class.branch [
      | then-has_class w ↦
          (omega arith, subst (Counted P (link + 1)) (sym w.count-is) (counted_more P link c.loop-link.count before (c.has_class.ensures.0 w.if-has_class.true)))
      | else-has_class w ↦
          (omega arith, subst (Counted P (link + 1)) (sym w.count-is) (counted_same P link c.loop-link.count before (λ h. both_ways c.has_class.result w.if-has_class.false (c.has_class.ensures.1 h))))
    ]

pub returns : goal.returns
returns c =
    let p = c.args.plan.now in
    subst (λ (m : ℕ). Counted (λ e. HasClass (graph_of p) numbers (mark_of p) e c.args.class) m c.loop-link.count) (omega arith) c.loop-link.invariant.1
