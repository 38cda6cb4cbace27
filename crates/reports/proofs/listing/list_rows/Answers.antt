use Rattle.std.proofs.Common.{arith}
use Rattle.reports.proofs.Listed.{gone_none, gone_more, gone_ends}
use Rattle.reports.proofs.listing.list_rows.Goals as goal

pub loop-letter-init : goal.loop-letter-init
loop-letter-init g c =
    (gone_none g.K.WeightKind.weighing c.args.walk.now g.S.Sink.took c.args.out.now c.requires.before, omega arith)

pub loop-letter-preserved : goal.loop-letter-preserved
loop-letter-preserved g c =
    let i = c.loop-letter.invariant in
    let r = c.put_rows-taken in
    let (text, fills, put) = r.ensures.puts in
    let within = r.ensures.within in
    let few = i.1 in (
      gone_more g.K.WeightKind.weighing c.args.walk.now g.S.Sink.took c.args.out.now c.loop-letter.walk r.new.walk c.loop-letter.out r.new.out
          c.args.limit c.loop-letter.count r.result.0 r.result.1 text i.0 fills r.ensures.stays put,
      omega arith,
    )

pub returns-then-letter-ne70 : goal.returns-then-letter-ne70
returns-then-letter-ne70 g c =
    let i = c.loop-letter.invariant in
    let r = c.put_rows-taken in
    let (text, fills, put) = r.ensures.puts in
    let within = r.ensures.within in
    let few = i.1 in
    record {
      lists = gone_ends g.K.WeightKind.weighing c.args.walk.now g.S.Sink.took c.args.out.now c.loop-letter.walk r.new.walk c.loop-letter.out r.new.out
          c.args.limit c.loop-letter.count r.result.0 r.result.1 text i.0 fills r.ensures.stays put few c.if-letter-ne70.true;
      within = omega arith;
      stays = (gone_more g.K.WeightKind.weighing c.args.walk.now g.S.Sink.took c.args.out.now c.loop-letter.walk r.new.walk c.loop-letter.out r.new.out
          c.args.limit c.loop-letter.count r.result.0 r.result.1 text i.0 fills r.ensures.stays put).stays;
    }
