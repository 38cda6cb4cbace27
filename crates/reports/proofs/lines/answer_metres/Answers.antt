use Rattle.reports.specs.declared.answers.Kind.TheVariants.{Metres}
use Rattle.reports.proofs.Answering.{answers_as}
use Rattle.reports.proofs.lines.answer_metres.Goals as goal

pub returns : goal.returns
returns c = answers_as Metres c.args.sheet.now _ _ c.load_as.ensures c.told.ensures
