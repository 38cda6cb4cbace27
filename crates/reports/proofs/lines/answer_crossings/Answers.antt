use Rattle.reports.specs.declared.answers.Kind.TheVariants.{CrossingsMetres}
use Rattle.reports.proofs.Answering.{answers_as}
use Rattle.reports.proofs.lines.answer_crossings.Goals as goal

pub returns : goal.returns
returns c = answers_as CrossingsMetres c.args.sheet.now _ _ c.load_as.ensures c.told.ensures
