use Rattle.std.proofs.Common.{Option, sym, subst}
use Rattle.reports.specs.Sinks.{PutOut}
use Rattle.reports.specs.Totals.{total_text}
use Rattle.reports.proofs.Puts.{put_one}
use Rattle.reports.proofs.totals.put_each.Goals as goal

pub returns-in-None : goal.returns-in-None
returns-in-None g c =
    let took = g.S.Sink.took in
    subst (λ (o : Option g.row.K-Total.Denot). PutOut took c.args.out.now (total_text g.K.Shown.text o) c.put.new.self) (sym c.in-None.is)
    (put_one took c.args.out.now c.put.new.self _ c.put.ensures)
