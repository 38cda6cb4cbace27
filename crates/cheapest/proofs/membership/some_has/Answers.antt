use Rattle.std.proofs.Common.{ℕ, Bool, [], ◌∷◌, Decides, sym, refl, subst}
use Rattle.std.proofs.lemmas.Bool.{eq-eqb, ne_eqb}
use Rattle.weights.specs.Amounts.{numbers}
use Rattle.cheapest.specs.Candidates.{number_of}
use Rattle.cheapest.specs.Classes.{InSome}
use Rattle.cheapest.specs.Plans.{graph_of, mark_of}
use Rattle.cheapest.proofs.Belonging.{loop_none, some_by_total, none_some}
use Rattle.cheapest.proofs.Joining.{tree_size}
use Rattle.cheapest.proofs.Stances.{refused}
use Rattle.cheapest.proofs.membership.some_has.Goals as goal

pub returns-in_default : goal.returns-in_default
returns-in_default c = refused (none_some c.args.list.now c.args.link c.in_default.ensures)

pub returns-then-list-c : goal.returns-then-list-c
returns-then-list-c c =
    let list = c.args.list.now in
    let at = c.in-Some.ensures in
    subst (λ (e : ℕ). Decides _ (InSome (graph_of list.plan) numbers (mark_of list.plan) (e ∷ []))) at.1
    (refused (loop_none list c.in-Some.c at.0 (eq-eqb _ _ c.if-list-c.true)))

pub returns-in_default-least_total : goal.returns-in_default-least_total
returns-in_default-least_total c = refused (λ some. c.in_default-least_total.ensures (some.0, some.1.row.tree))

pub returns : goal.returns
returns c =
    let list = c.args.list.now in
    let at = c.in-Some.ensures in
    let least = c.in-Some-least_total.ensures in
    subst (λ (e : ℕ). Decides c.stays_within.result (InSome (graph_of list.plan) numbers (mark_of list.plan) (e ∷ []))) at.1
    (subst (λ (b : Bool). Decides b (InSome (graph_of list.plan) numbers (mark_of list.plan) (number_of list c.in-Some.c ∷ []))) (sym c.stays_within.ensures)
    (some_by_total list c.in-Some.c at.0 (ne_eqb _ _ c.if-list-c.false) (tree_size list.plan least.0) _ c.in-Some-least_total.least refl least.1))
