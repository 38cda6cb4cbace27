use Rattle.std.proofs.Common.{arith}
use Rattle.cheapest.proofs.Reopened.{one_closed, none_closed, reopened_owed, reopened_graph, reopened_marks}
use Rattle.cheapest.proofs.plan.Plan.without.Goals as goal
use Rattle.cheapest.proofs.plan.Plan.without.Goals.{then-link-lt512, else-link-lt512}

pub invariant_of-result : goal.invariant_of-result
invariant_of-result c =
    let p = c.args.self.now in
    let wide = p.widelinks in
    reopened_owed p (elim c.if-link-lt512.branch [
      | then-link-lt512 w ↦ one_closed p.links c.args.link (let t = w.if-link-lt512.true in omega arith) w.links-is
      | else-link-lt512 w ↦ none_closed p.links c.args.link (let t = w.if-link-lt512.false in omega arith) w.links-is
    ])

pub returns : goal.returns
returns c =
    let p = c.args.self.now in
    let wide = p.widelinks in
    elim c.if-link-lt512.branch [
      | then-link-lt512 w ↦
          let h = one_closed p.links c.args.link (let t = w.if-link-lt512.true in omega arith) w.links-is in
          record { graph = reopened_graph p h; marks = reopened_marks p h }
      | else-link-lt512 w ↦
          let h = none_closed p.links c.args.link (let t = w.if-link-lt512.false in omega arith) w.links-is in
          record { graph = reopened_graph p h; marks = reopened_marks p h }
    ]
