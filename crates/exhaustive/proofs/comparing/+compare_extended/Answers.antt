use Rattle.std.proofs.Common.{◌-◌, length, ◌∙◌, arith}
use Rattle.exhaustive.proofs.Counting.{one_choice_more, popped}
use Rattle.exhaustive.proofs.comparing.+compare_extended.Goals as goal

pub loop-choice-preserved : goal.loop-choice-preserved
loop-choice-preserved t c =
    let more = one_choice_more c.loop-choice.choice-index (length c.args.choices.now) (c.args.more - 1)
    (omega arith) (omega arith) (omega arith) in
    record {
      compares = grind (arith, more);
      restores = (
        c.compare_extended.ensures.restores.0 ∙ c.loop-choice.invariant.restores.0,
        popped c.loop-choice.case.links.items c.compare_extended.new.case.links.items c.pop.new.self.items c.numbered.result
            (c.compare_extended.ensures.restores.1 ∙ c.push.ensures.items) c.pop.ensures.rest
            ∙ c.loop-choice.invariant.restores.1,
      );
    }
