use Rattle.std.proofs.Common.{◌≡◌, length, Some, subst, arith}
use Rattle.receivers.proofs.Serving.{serves_same, serves_then}
use Rattle.walks.specs.declared.turns.Turn.{Turn}
use Rattle.walks.proofs.Running.{Ran, ran_none, ran_more, ran_all}
use Rattle.walks.proofs.performing.act_all.Goals as goal

pub loop-turn-init : goal.loop-turn-init
loop-turn-init g c =
    let ρ = g.R.Receiver in
    let r = c.args.receiver.now in
    (ran_none g.K.WeightKind.weighing g.met.K.WeightKind.lawful c.args.walk.now (ρ.rule r) (ρ.held r) c.args.turns.now c.requires.begun c.requires.before, serves_same r)

pub loop-turn-preserved : goal.loop-turn-preserved
loop-turn-preserved g c =
    let ρ = g.R.Receiver in
    let r = c.args.receiver.now in
    let now = c.loop-turn.receiver in
    let next = c.act.new.receiver in
    let inv = c.loop-turn.invariant in
    let a = c.act.ensures in
    let turns = c.loop-turn.turns in
    let i = c.loop-turn.turn-index in
    let turn : Turn = record { call = c.act.new.call; answer = Some c.act.result } in (
      ran_more g.K.WeightKind.weighing g.met.K.WeightKind.lawful c.args.walk.now (ρ.rule r) (ρ.held r) c.args.turns.now c.loop-turn.walk c.act.new.walk (ρ.rule now)
          (ρ.held now) (ρ.held next) turns i c.turn-item.result turn (let same = c.loop-turn.auto.turns in let left = c.loop-turn-test.true in omega arith) inv.0 inv.1.rule a.performs a.stays,
      serves_then inv.1 a.serves,
    )

pub returns-clause-promise : goal.returns-clause-promise
returns-clause-promise g c =
    let ρ = g.R.Receiver in
    let r = c.args.receiver.now in
    let all : c.loop-turn.turn-index ≡ length c.args.turns.now = (let left = c.loop-turn-test.false in let most = c.loop-turn.auto.turn-index-end in omega arith) in
    ran_all g.K.WeightKind.weighing g.met.K.WeightKind.lawful c.args.walk.now (ρ.rule r) (ρ.held r) c.args.turns.now c.loop-turn.walk (ρ.held c.loop-turn.receiver) c.loop-turn.turns
    c.loop-turn.auto.turns
    (subst (Ran g.K.WeightKind.weighing c.args.walk.now c.loop-turn.walk (ρ.rule r) (ρ.held r) (ρ.held c.loop-turn.receiver) c.args.turns.now c.loop-turn.turns) all c.loop-turn.invariant.0)
