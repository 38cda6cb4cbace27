use Rattle.std.proofs.Common.{Bool, ◌∙◌, subst, arith}
use Rattle.reports.specs.Filling.{SaysFollows}
use Rattle.reports.proofs.Printed.{listed_other, listed_more, listed_last, letter_small}
use Rattle.reports.proofs.listing.list.Goals as goal

pub returns-then-letter-ne76 : goal.returns-then-letter-ne76
returns-then-letter-ne76 g c =
    let k = g.K.WeightKind.weighing in
    let r = c.list_rows-count in
    let before = c.args.walk.now in
    let start = c.args.out.now in
    record {
      lists = listed_other k before r.new.walk g.S.Sink.took start r.new.out r.result.0 r.result.1 r.ensures.lists r.ensures.within c.if-letter-ne76.true;
      network = r.ensures.stays.network;
      letter = letter_small k before r.new.walk g.S.Sink.took start r.new.out r.result.0 r.result.1 r.ensures.lists g.met.K.WeightKind.lawful;
    }

pub returns-then-follows : goal.returns-then-follows
returns-then-follows g c =
    let k = g.K.WeightKind.weighing in
    let r = c.list_rows-count in
    let f = c.follows in
    let says = subst (λ (b : Bool). SaysFollows k r.new.walk f.new.walk b) c.if-follows.true f.ensures.says in
    record {
      lists = listed_more k c.args.walk.now r.new.walk g.S.Sink.took c.args.out.now r.new.out r.result.0 r.result.1 r.ensures.lists
          f.new.walk c.if-letter-ne76.false r.ensures.stays.network says;
      network = f.ensures.stays.network ∙ r.ensures.stays.network;
      letter = omega arith;
    }

pub returns-else-follows : goal.returns-else-follows
returns-else-follows g c =
    let k = g.K.WeightKind.weighing in
    let r = c.list_rows-count in
    let f = c.follows in
    let says = subst (λ (b : Bool). SaysFollows k r.new.walk f.new.walk b) c.if-follows.false f.ensures.says in
    record {
      lists = listed_last k c.args.walk.now r.new.walk g.S.Sink.took c.args.out.now r.new.out r.result.0 r.result.1 r.ensures.lists
          f.new.walk c.if-letter-ne76.false r.ensures.stays.network says;
      network = f.ensures.stays.network ∙ r.ensures.stays.network;
      letter = omega arith;
    }
