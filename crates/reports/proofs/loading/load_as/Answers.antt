use Rattle.std.proofs.Common.{replicate, refl}
use Rattle.reports.proofs.Judging.{loads}
use Rattle.reports.proofs.loading.load_as.Goals as goal

pub returns : goal.returns
returns g c =
    let k = g.K.SheetKind in
    let blank = replicate 512 (record { from = 0; to = 0; weight = c.zero.result }) in
    loads k.letter k.width k.bytes c.args.sheet.now blank c.load.new.links c.load.result refl c.load.ensures
