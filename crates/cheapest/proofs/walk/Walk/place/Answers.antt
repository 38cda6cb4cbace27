use Rattle.std.proofs.Common.{sym, arith}
use Rattle.std.proofs.lemmas.Bool.{not-true, not-false}
use Rattle.cheapest.proofs.Searches.{matched_all, matched_end, unmatched_ring, matching_take, matching_skip}
use Rattle.cheapest.proofs.walk.Walk.place.Goals as goal
use Rattle.cheapest.proofs.walk.Walk.place.Goals.{then-list-c+else-not-apart, else-list-c}

pub returns-then-p-numbers : goal.returns-then-p-numbers
returns-then-p-numbers c = matched_all c.loop-c.invariant (omega arith)

pub returns-then-not-apart : goal.returns-then-not-apart
returns-then-not-apart c = let here = c.loop-c.invariant in unmatched_ring here c.loop-c-test.true (omega arith) c.if-list-c.true
    (not-false _ (sym c.if-not-apart.ensures))

pub loop-c-preserved : goal.loop-c-preserved
loop-c-preserved c =
    let here = c.loop-c.invariant in
    let few = c.requires.few in
    elim c.if-list-c.branch [
      | then-list-c+else-not-apart w ↦ rw (w.self-is, w.p-is)
          (matching_take here c.loop-c-test.true (omega arith) w.if-list-c.true w.choose.new.self.at w.choose.new.self.labels
          (omega arith) (not-true _ (sym w.if-not-apart.ensures))
          w.choose.ensures.row w.choose.new.self.wide w.choose.ensures.fronts)
      | else-list-c w ↦ rw (w.self-is, w.p-is)
          (matching_skip here c.loop-c-test.true (omega arith) w.if-list-c.false)
    ]

pub returns : goal.returns
returns c = matched_end c.loop-c.invariant c.loop-c-test.false
