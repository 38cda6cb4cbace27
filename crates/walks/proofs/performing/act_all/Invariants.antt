use Rattle.receivers.specs.Rules.{Serves}
use Rattle.walks.proofs.Running.{Ran}
use Rattle.walks.proofs.performing.act_all.Given as goal

abbrev pub invariant-loop-turn : goal.invariant-loop-turn
invariant-loop-turn g l =
    let ρ = g.R.Receiver in
    let was = l.initial.receiver in
    let is = l.receiver in
    Ran g.K.WeightKind.weighing l.initial.walk l.walk (ρ.rule was) (ρ.held was) (ρ.held is) l.initial.turns l.turns l.turn-index
    × Serves ρ.rule ρ.spare ρ.lender was is
