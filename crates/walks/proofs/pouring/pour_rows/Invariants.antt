use Rattle.receivers.specs.Rules.{Serves}
use Rattle.walks.proofs.Poured.{Taken}
use Rattle.walks.proofs.pouring.pour_rows.Given as goal

abbrev pub invariant-loop-count : goal.invariant-loop-count
invariant-loop-count g l =
    let k = g.R.Receiver in
    let was = l.initial.receiver in
    let is = l.receiver in
    Taken l.initial.rows l.rows (k.rule was) (k.held was) (k.held is) l.count
    × Serves k.rule k.spare k.lender was is
