use Rattle.std.proofs.Common.{refl, subst}
use Rattle.weights.specs.Weighings.{by_metres, by_crossings, paired}
use Rattle.weights.specs.declared.crossings.Crossings.{Crossings}
use Rattle.weights.specs.declared.metres.Metres.{Metres}
use Rattle.weights.specs.declared.pairs.Pair.{Pair}
use Rattle.networks.specs.declared.networks.Network.{Network}
use Rattle.reports.specs.Kinds.{crossings_text}
use Rattle.reports.specs.Reports.{PutsNetwork}
use Rattle.reports.proofs.reporting.list_crossings.Goals as goal

pub returns : goal.returns
returns g c =
    subst (λ (n : Network (Pair Crossings Metres)). PutsNetwork (paired by_crossings by_metres) crossings_text g.S.Sink.took n c.args.out.now c.report_walk.new.out) c.begin.ensures.network
    (c.report_walk.ensures crossings_text (λ t. refl))
