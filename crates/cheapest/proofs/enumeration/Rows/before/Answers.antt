use Rattle.std.proofs.Common.{rules, arith}
use Rattle.cheapest.proofs.Stances.{first_owed}
use Rattle.cheapest.proofs.enumeration.Rows.before.Goals as goal

pub invariant_of-result : goal.invariant_of-result
invariant_of-result c =
    let first = c.to_first-size.ensures in
    let marks = c.read_row.ensures in
    first_owed c.args.list first.filled c.to_first-size.new.self.wide c.read_row.new.out c.to_first-size.new.row
    marks.len first.wide (λ j l. let h = marks.writes j (omega arith, l) in search rules) first.links
