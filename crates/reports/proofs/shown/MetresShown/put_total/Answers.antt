use Rattle.std.proofs.Common.{ℕ, decimal, subst}
use Rattle.reports.specs.Sinks.{PutOut}
use Rattle.reports.proofs.Puts.{put_one}
use Rattle.reports.proofs.shown.MetresShown.put_total.Goals as goal

pub returns : goal.returns
returns g c =
    let took = g.S.Sink.took in
    subst (λ (n : ℕ). PutOut took c.args.out.now (decimal n) c.put_number.new.out) c.metres.ensures (put_one took c.args.out.now c.put_number.new.out _ c.put_number.ensures)
