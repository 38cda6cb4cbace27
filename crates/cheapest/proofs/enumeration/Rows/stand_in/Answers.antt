use Rattle.std.proofs.Common.{◌∙◌}
use Rattle.forests.proofs.Members.{place}
use Rattle.cheapest.specs.Positions.{row_of}
use Rattle.cheapest.proofs.Exchanges.{row_place, rest_fronts, none_stands, first_stands}
use Rattle.cheapest.proofs.enumeration.Rows.stand_in.Goals as goal

pub returns-in_err-q : goal.returns-in_err-q
returns-in_err-q c = rw c.from_residual.ensures (λ f m s.
    let none = rw c.row-row.ensures at c.in_err-q.ensures in
    let p = place c.args.link (row_of c.args.self.now) 0 m in
    none p.0 p.1 p.2)

pub first_across-requires-clause-fronts : goal.first_across-requires-clause-fronts
first_across-requires-clause-fronts c =
    let rows = c.args.self.now in
    let f = rw c.row-row.ensures at c.in_ok-q.ensures in
    let at = row_place rows c.in_ok-q.q c.args.link f.0 f.1 in
    let e = c.copy_within.ensures in
    rest_fronts rows at.0 c.in_ok-q.q at.1 c.copy_within.new.self (e.len ∙ rows.widerow) e.by_index.1 e.by_index.0 c.place.new.self.wide c.place.ensures

pub returns-in_err-c : goal.returns-in_err-c
returns-in_err-c c =
    let rows = c.args.self.now in
    let f = rw c.row-row.ensures at c.in_ok-q.ensures in
    let at = row_place rows c.in_ok-q.q c.args.link f.0 f.1 in
    let e = c.copy_within.ensures in
    rw c.from_residual-in_err-c.ensures (λ h m s.
    none_stands rows at.0 c.in_ok-q.q at.1 c.copy_within.new.self (e.len ∙ rows.widerow) e.by_index.1 e.by_index.0 c.place.new.self.wide c.place.ensures
    c.args.link at.2 c.in_err-c.ensures h s)

pub returns : goal.returns
returns c =
    let rows = c.args.self.now in
    let f = rw c.row-row.ensures at c.in_ok-q.ensures in
    let at = row_place rows c.in_ok-q.q c.args.link f.0 f.1 in
    let e = c.copy_within.ensures in
    let found = c.in_ok-c.ensures in
    first_stands rows at.0 c.in_ok-q.q at.1 c.copy_within.new.self (e.len ∙ rows.widerow) e.by_index.1 e.by_index.0 c.place.new.self.wide c.place.ensures
    c.args.link at.2 c.in_ok-c.c found.2 found.0 found.1
