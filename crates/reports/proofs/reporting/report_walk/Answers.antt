use Rattle.std.proofs.Common.{[], ◌∷◌, ◌++◌, Result, ap, subst}
use Rattle.networks.specs.declared.refusals.Refusal.{Refusal}
use Rattle.reports.specs.Answers.{sound_line, counts_of, line_of_answer}
use Rattle.reports.specs.Sinks.{PutOut}
use Rattle.reports.specs.declared.answers.Contents.{Contents}
use Rattle.reports.proofs.Networks.{report_of}
use Rattle.reports.proofs.reporting.report_walk.Goals as goal

pub returns : goal.returns
returns g c =
    let took = g.S.Sink.took in
    let o = c.args.out.now in
    let before = c.args.walk.now in
    let listed = c.list-count in
    let each = c.total_each-total in
    let first = subst (λ (a : Result Contents Refusal). PutOut took o (line_of_answer a ++ (10 ∷ [])) c.put_answer.new.out) c.sound.ensures c.put_answer.ensures in
    let begins = subst (λ (n : Contents). PutOut took o (sound_line n.sites n.links ++ (10 ∷ [])) c.put_answer.new.out) (ap counts_of c.network.ensures) first in
    report_of g.K.WeightKind.weighing g.K.WeightKind.sum g.met.K.WeightKind.lawful g.K.Shown.text before listed.new.walk took o c.put_answer.new.out listed.new.out c.put_last.new.out
    listed.result.0 listed.result.1 each.result listed.ensures.network listed.ensures.lists each.ensures begins c.put_last.ensures
