use Rattle.std.proofs.Common.{◌≡◌, subst, arith}
use Rattle.receivers.proofs.Serving.{serves_same, serves_then}
use Rattle.walks.proofs.Poured.{Taken, taken_none, taken_more, taken_ends, taken_all}
use Rattle.walks.proofs.pouring.pour_rows.Goals as goal

pub loop-count-init : goal.loop-count-init
loop-count-init g c =
    let k = g.R.Receiver in
    let r = c.args.receiver.now in
    (taken_none c.args.rows.now (k.rule r) (k.held r), serves_same r)

pub loop-count-preserved : goal.loop-count-preserved
loop-count-preserved g c =
    let k = g.R.Receiver in
    let i = c.loop-count.invariant in
    let o = c.offer.ensures in
    let r = c.args.receiver.now in
    let now = c.loop-count.receiver in
    let next = c.offer.new.receiver in (
      taken_more c.args.rows.now c.loop-count.rows c.offer.new.rows (k.rule r) (k.rule now) (k.held r) (k.held now) (k.held next)
          c.loop-count.count c.offer.result i.0 i.1.rule o.does c.in_default.is o.plan,
      serves_then i.1 o.serves,
    )

pub returns-in-Err-clause-does : goal.returns-in-Err-clause-does
returns-in-Err-clause-does g c =
    let k = g.R.Receiver in
    let i = c.loop-count.invariant in
    let r = c.args.receiver.now in
    let now = c.loop-count.receiver in
    taken_ends c.args.rows.now c.loop-count.rows c.offer.new.rows (k.rule r) (k.rule now) (k.held r) (k.held now) (k.held c.offer.new.receiver)
    c.loop-count.count c.offer.result i.0 i.1.rule c.offer.ensures.does c.in-Err.ending c.args.limit c.in-Err.is (let less = c.loop-count-test.true in omega arith)

pub returns-clause-does : goal.returns-clause-does
returns-clause-does g c =
    let k = g.R.Receiver in
    let r = c.args.receiver.now in
    let all : c.loop-count.count ≡ c.args.limit = (let most = c.loop-count.auto.count-end in let done = c.loop-count-test.false in omega arith) in
    taken_all c.args.rows.now c.loop-count.rows (k.rule r) (k.held r) (k.held c.loop-count.receiver) c.args.limit
    (subst (Taken c.args.rows.now c.loop-count.rows (k.rule r) (k.held r) (k.held c.loop-count.receiver)) all c.loop-count.invariant.0)
