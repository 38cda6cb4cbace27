use Rattle.std.proofs.Common.{ℕ, ◌-◌, take, refl, ap, rules, arith}
use Rattle.std.proofs.lemmas.Bool.{both_ways}
use Rattle.cheapest.proofs.Joining.{tree_size}
use Rattle.cheapest.proofs.Standings.{none_follows, again_standing, next_follows, next_standing}
use Rattle.cheapest.proofs.Stances.{standing, owed, stops_row, steps_begin, steps_follow}
use Rattle.cheapest.proofs.enumeration.Rows.advance.Goals as goal

pub invariant_of-self : goal.invariant_of-self
invariant_of-self c =
    let rows = c.args.self.now in
    owed (standing rows) (λ j h. rows.begins j (c.if-not-self.true, h.1))
    (λ e. omega (arith, rows.whole, tree_size rows.list.plan (c.joined-self.ensures.tree.0 e)))

pub returns-then-not-self-clause-moves : goal.returns-then-not-self-clause-moves
returns-then-not-self-clause-moves c = λ e.
    let rows = c.args.self.now in
    steps_begin rows _ e c.if-not-self.true (omega (arith, rows.whole, tree_size rows.list.plan (c.joined-self.ensures.tree.0 e))) refl

pub invariant_of-self-in_default : goal.invariant_of-self-in_default
invariant_of-self-in_default c =
    let rows = c.args.self.now in
    owed (again_standing (standing rows) (take (rows.size - 0) rows.row) (ap (λ (n : ℕ). take n rows.row) (omega arith)) c.place.ensures c.place.new.self.wide) rows.begins rows.joins

pub returns-in_default-clause-ends : goal.returns-in_default-clause-ends
returns-in_default-clause-ends c = λ _.
    let rows = c.args.self.now in
    let on = c.if-not-self.false in
    stops_row rows on (none_follows (standing rows) (take (rows.size - 0) rows.wanted) (ap (λ (n : ℕ). take n rows.wanted) (omega arith)) c.in_default.ensures.answers (rows.joins on))

pub invariant_of-self-2 : goal.invariant_of-self-2
invariant_of-self-2 c =
    let rows = c.args.self.now in
    let on = c.if-not-self.false in
    let e = c.read_row.ensures in
    owed (next_standing (standing rows) (take (rows.size - 0) rows.wanted) (ap (λ (n : ℕ). take n rows.wanted) (omega arith)) c.in-Some.ensures.answers c.next_row-next.new.self.wide
    c.read_row.new.out e.len e.keeps (λ j l. let h = e.writes j l in search rules) (rows.joins on))
    (λ j h. absurd (both_ways rows.on h.0 on)) rows.joins

pub returns-clause-moves : goal.returns-clause-moves
returns-clause-moves c = λ _.
    let rows = c.args.self.now in
    let on = c.if-not-self.false in
    let e = c.read_row.ensures in
    steps_follow rows _ on on
    (next_follows (standing rows) (take (rows.size - 0) rows.wanted) (ap (λ (n : ℕ). take n rows.wanted) (omega arith)) c.in-Some.ensures.answers c.next_row-next.new.self.wide
    c.read_row.new.out e.len e.keeps (λ j l. let h = e.writes j l in search rules) (rows.joins on))
