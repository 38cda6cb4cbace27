use Rattle.std.proofs.Common.{sym, arith}
use Rattle.std.proofs.lemmas.Bool.{not-true, not-false, ltb-true}
use Rattle.cheapest.proofs.Growth.{growing_skip, growing_take, ended, given_up, misses_class, misses_high}
use Rattle.cheapest.proofs.Listed.{classes_rise}
use Rattle.cheapest.proofs.walk.Walk.complete.Goals as goal
use Rattle.cheapest.proofs.walk.Walk.complete.Goals.{then-apart+else-list-c, else-apart}

pub returns-then-is_dearer : goal.returns-then-is_dearer
returns-then-is_dearer c =
    let here = c.loop-c.invariant in
    let few = c.requires.within.1 in
    given_up here (misses_high here (λ d l k. classes_rise c.args.list.now c.loop-c.c d l k) (omega arith) (omega arith) (ltb-true _ _ (sym c.if-is_dearer.ensures)))

pub returns-then-list-c : goal.returns-then-list-c
returns-then-list-c c =
    let here = c.loop-c.invariant in
    let few = c.requires.within.1 in
    given_up here (misses_class here c.loop-c-test.true (omega arith) (omega arith)
    (not-true _ (sym c.if-apart.ensures)) c.if-list-c.true)

pub loop-c-preserved : goal.loop-c-preserved
loop-c-preserved c =
    let here = c.loop-c.invariant in
    let few = c.requires.within.1 in
    elim c.if-apart.branch [
      | then-apart+else-list-c w ↦
          let e = w.choose.ensures in
          rw (w.self-is, w.p-is)
          (growing_take here w.choose.new.self.at w.choose.new.self.labels (omega arith) (omega arith) c.loop-c-test.true
          (not-true _ (sym w.if-apart.ensures)) w.if-list-c.false e.row w.choose.new.self.wide e.fronts)
      | else-apart w ↦
          rw (w.self-is, w.p-is)
          (growing_skip here c.loop-c-test.true (not-false _ (sym w.if-apart.ensures)))
    ]

pub returns : goal.returns
returns c = ended c.loop-c.invariant c.loop-c-test.false c.requires.within.1
