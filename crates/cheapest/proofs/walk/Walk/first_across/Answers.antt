use Rattle.std.proofs.Common.{ℕ, take, rules}
use Rattle.std.proofs.lemmas.Iterator.{first_from_Range}
use Rattle.cheapest.specs.Runs.{CrossesIn}
use Rattle.cheapest.proofs.walk.Walk.first_across.Goals as goal

pub returns : goal.returns
returns c =
    let crosses : ℕ → Type 0 = λ k. CrossesIn c.args.list.now (take c.args.p c.args.self.now.at) c.args.link c.args.class k in
    let first = first_from_Range _ _ _ c.find.result crosses (λ k. crosses k → ⊥) c.find.ensures.ran (λ x q e. search (rules, e.called)) (λ x q e. (search (rules, e.called), (λ h. search (rules, e.called)))) in
    search (rules, first)
