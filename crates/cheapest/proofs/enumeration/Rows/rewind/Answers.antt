use Rattle.std.proofs.Common.{arith}
use Rattle.cheapest.proofs.Stances.{again_size, again_owed}
use Rattle.cheapest.proofs.enumeration.Rows.rewind.Goals as goal

pub invariant_of-self : goal.invariant_of-self
invariant_of-self c =
    let rows = c.args.self.now in
    let first = c.to_first.ensures in
    let wide = c.to_first.new.self.wide in
    again_owed rows first.filled wide c.to_first.new.row first.wide (λ j l. first.links j (omega (arith, l, again_size rows first.filled wide)))
