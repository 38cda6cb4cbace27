use Rattle.std.proofs.Common.{map, sym, refl, ap, ◌∙◌, subst}
use Rattle.weights.specs.Amounts.{numbers}
use Rattle.weights.specs.Scales.{sum_of}
use Rattle.cheapest.specs.Plans.{graph_of, mark_of, first_of}
use Rattle.cheapest.specs.Positions.{HasTree}
use Rattle.cheapest.specs.declared.plan.Plan.{Plan}
use Rattle.cheapest.proofs.Avoiding.{every_apart, every_alone, every_by_totals}
use Rattle.cheapest.proofs.plan.Plan.avoids.Goals as goal

pub returns-in_default : goal.returns-in_default
returns-in_default c =
    let p = c.args.self.now in
    ((λ _. every_apart p c.args.link (λ t. c.in_default.ensures (subst HasTree (sym c.list_candidates-list.ensures) t))), (λ _. refl))

pub returns-in_default-least_total : goal.returns-in_default-least_total
returns-in_default-least_total c =
    let of = c.without.ensures in
    let same = c.list_candidates-others.ensures in (
      (λ _. every_alone c.args.self.now c.args.link c.list_candidates-others.result.plan (ap graph_of same ∙ of.graph) (ap mark_of same ∙ of.marks)
          c.in_default-least_total.ensures),
      (λ _. refl),
    )

pub returns : goal.returns
returns c =
    let of = c.without.ensures in
    let mine = c.list_candidates-list.ensures in
    let same = c.list_candidates-others.ensures in
    let least = c.in-Some.ensures in
    let other = c.in-Some-least_total.ensures in
    every_by_totals c.args.self.now c.args.link c.list_candidates-others.result.plan (ap graph_of same ∙ of.graph) (ap mark_of same ∙ of.marks)
    (subst HasTree mine least.0) other.0 c.in-Some-least_total.total c.in-Some.least other.1
    (least.1 ∙ ap (λ (z : Plan). sum_of numbers (map (mark_of z) (first_of z))) mine)
