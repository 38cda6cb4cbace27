use Rattle.reports.specs.declared.answers.Kind.TheVariants.{CrossingsMetres}
use Rattle.reports.proofs.Told.{network_reported, refusal_reported}
use Rattle.reports.proofs.reporting.report_crossings.Goals as goal

pub returns-in-Ok : goal.returns-in-Ok
returns-in-Ok g c = network_reported g.S.Sink.took c.args.out.now c.list_crossings.new.out CrossingsMetres c.args.sheet.now _ c.load_as.ensures _ c.in-Ok.is c.list_crossings.ensures

pub returns-in-Err : goal.returns-in-Err
returns-in-Err g c = refusal_reported g.S.Sink.took c.args.out.now c.put_answer.new.out CrossingsMetres c.args.sheet.now _ c.load_as.ensures _ c.in-Err.is c.put_answer.ensures
