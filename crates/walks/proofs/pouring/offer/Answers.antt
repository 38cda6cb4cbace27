use Rattle.std.proofs.Common.{sym, refl, ap, ◌∙◌, subst}
use Rattle.cheapest.specs.Positions.{CheapestIn, plan_of, row_of}
use Rattle.cheapest.specs.declared.plan.Plan.{Plan}
use Rattle.cheapest.specs.Kept.{kept_row}
use Rattle.receivers.specs.Rules.{takes, held_after}
use Rattle.walks.proofs.Offered.{declined_same}
use Rattle.walks.proofs.Moves.{place_back, on_cheapest, place_on, same_place, steps_come, stops_last}
use Rattle.walks.proofs.pouring.offer.Goals as goal

pub returns-then-not-advance-clause-does : goal.returns-then-not-advance-clause-does
returns-then-not-advance-clause-does g c L full =
    let rows = c.args.rows.now in
    let e = c.if-not-advance.ensures in
    let joined = c.if-not-joined.ensures.joined.0 refl in
    (joined, stops_last rows L full joined (e.ends refl), same_place rows c.advance.new.self (e.stays refl), refl)

pub returns-then-take-clause-does : goal.returns-then-take-clause-does
returns-then-take-clause-does g c L full =
    let after = c.advance.new.self in
    let steps = c.if-not-advance.ensures.moves refl in
    let t = c.if-take.ensures in
    let row = c.row.ensures in
    let k = g.R.Receiver in
    let r = c.args.receiver.now in (
      c.if-not-joined.ensures.joined.0 refl,
      (
        row_of after,
        steps_come c.args.rows.now L full after steps,
        sym (t.answers ∙ ap (takes (k.rule r) (k.held r)) row),
        place_on after steps.on,
        t.held ∙ ap (held_after (k.rule r) (k.held r)) row,
      ),
    )

pub go_back-requires : goal.go_back-requires
go_back-requires g c =
    let rows = c.args.rows.now in
    let kept = c.kept-kept.ensures in
    let e = c.if-not-advance.ensures in
    λ on. subst (λ (p : Plan). CheapestIn p (kept_row c.kept-kept.result)) (sym e.plan) (subst (CheapestIn (plan_of rows)) (sym kept.row) (on_cheapest rows (sym kept.on ∙ on)))

pub returns-clause-does : goal.returns-clause-does
returns-clause-does g c L full =
    let rows = c.args.rows.now in
    let after = c.go_back.new.rows in
    let back = c.go_back.ensures in
    let t = c.if-take.ensures in
    let row = c.row.ensures in
    let k = g.R.Receiver in
    let r = c.args.receiver.now in
    let declines = sym (t.answers ∙ ap (takes (k.rule r) (k.held r)) row) in (
      c.if-not-joined.ensures.joined.0 refl,
      (row_of c.advance.new.self, steps_come rows L full c.advance.new.self (c.if-not-advance.ensures.moves refl), declines),
      place_back rows after c.kept-kept.result c.kept-kept.ensures.on c.kept-kept.ensures.row back.on back.row,
      t.held ∙ ap (held_after (k.rule r) (k.held r)) row ∙ declined_same (k.rule r) (k.held r) (row_of c.advance.new.self) declines,
    )
