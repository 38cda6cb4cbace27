use Rattle.std.proofs.Common.{sym}
use Rattle.std.proofs.lemmas.Bool.{not-true, not-false}
use Rattle.cheapest.proofs.Filling.{filling_skip, filling_room, filling_take, filled}
use Rattle.cheapest.proofs.walk.Walk.first_row.Goals as goal
use Rattle.cheapest.proofs.walk.Walk.first_row.Goals.{then-apart, else-apart}

pub choose-requires-clause-within : goal.choose-requires-clause-within
choose-requires-clause-within c = (filling_room c.loop-c.invariant c.loop-c-test.true (not-true _ (sym c.if-apart.ensures)), c.loop-c-test.true)

pub loop-c-preserved : goal.loop-c-preserved
loop-c-preserved c =
    let here = c.loop-c.invariant in
    elim c.if-apart.branch [
      | then-apart w ↦ rw (w.self-is, w.p-is)
          (filling_take here w.choose.new.self.at w.choose.new.self.labels c.loop-c-test.true (not-true _ (sym w.if-apart.ensures))
          w.choose.ensures.row w.choose.new.self.wide w.choose.ensures.fronts)
      | else-apart w ↦ rw (w.self-is, w.p-is)
          (filling_skip here c.loop-c-test.true (not-false _ (sym w.if-apart.ensures)))
    ]

pub returns : goal.returns
returns c = filled c.loop-c.invariant c.loop-c-test.false
