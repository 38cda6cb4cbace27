use Rattle.std.proofs.Common.{◌-◌, ◌++◌, drop, sym, refl, ◌∙◌, arith}
use Rattle.std.proofs.lemmas.Bool.{true≢false, false≢true}
use Rattle.cheapest.proofs.Standings.{other_standing, written_over}
use Rattle.cheapest.proofs.Stances.{standing, owed, refused, listed_passes, passing_listed}
use Rattle.cheapest.proofs.enumeration.Rows.seek.Goals as goal

pub returns-then-not-place-clause-listed : goal.returns-then-not-place-clause-listed
returns-then-not-place-clause-listed c = refused (λ l. false≢true (c.if-not-place.ensures.answers ∙ listed_passes c.args.self.now c.args.row.now l))

pub invariant_of-self-2 : goal.invariant_of-self-2
invariant_of-self-2 c =
    let rows = c.args.self.now in
    let row = c.args.row.now in
    let level = c.is_level.ensures.passes c.if-not-is_level.false in
    let put = c.copy_from_slice.new.self in
    let small = rows.small in
    let wide = rows.widerow in
    let over = written_over rows.size (rows.size - 0) rows.row row put c.copy_from_slice.ensures.after level.size (omega arith) (omega arith) in
    owed (other_standing (standing rows) row (put ++ drop (rows.size - 0) rows.row) c.if-not-place.ensures level.size
    (λ j l. level.marks j (omega (arith, level.size))) c.place.new.self.wide (over.0 ∙ wide) over.1)
    (λ j h. absurd (true≢false h.0)) (λ _. level.joined)

pub returns-clause-listed : goal.returns-clause-listed
returns-clause-listed c =
    let level = c.is_level.ensures.passes c.if-not-is_level.false in (
      (λ _. passing_listed c.args.self.now c.args.row.now level.joined level.size level.marks (sym c.if-not-place.ensures.answers)),
      (λ _. refl),
    )
