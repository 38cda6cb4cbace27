use Rattle.std.proofs.Common.{refl, subst}
use Rattle.weights.specs.Weighings.{by_metres}
use Rattle.weights.specs.declared.metres.Metres.{Metres}
use Rattle.networks.specs.declared.networks.Network.{Network}
use Rattle.reports.specs.Kinds.{metres_text}
use Rattle.reports.specs.Reports.{PutsNetwork}
use Rattle.reports.proofs.reporting.list_metres.Goals as goal

pub returns : goal.returns
returns g c =
    subst (λ (n : Network Metres). PutsNetwork by_metres metres_text g.S.Sink.took n c.args.out.now c.report_walk.new.out) c.begin.ensures.network
    (c.report_walk.ensures metres_text (λ t. refl))
