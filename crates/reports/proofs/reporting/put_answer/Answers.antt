use Rattle.std.proofs.Common.{ℕ, List, [], ◌∷◌, ◌++◌, ◌∙◌, subst}
use Rattle.reports.specs.Sinks.{PutOut}
use Rattle.reports.proofs.Puts.{put_one, put_both}
use Rattle.reports.proofs.reporting.put_answer.Goals as goal

pub returns : goal.returns
returns g c =
    let took = g.S.Sink.took in
    let o = c.args.out.now in
    let o1 = c.put.new.self in
    let o2 = c.put-2.new.self in
    subst (λ (t : List ℕ). PutOut took o (t ++ (10 ∷ [])) o2) (c.as_slice.ensures ∙ c.line-line.ensures)
    (put_both took o o1 o2 _ _ (put_one took o o1 _ c.put.ensures) (put_one took o1 o2 _ c.put-2.ensures))
