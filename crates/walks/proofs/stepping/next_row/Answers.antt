use Rattle.std.proofs.Common.{[], refl, arith}
use Rattle.cheapest.specs.Positions.{row_of}
use Rattle.walks.specs.Answering.{no_row_follows}
use Rattle.walks.proofs.Listed.{listed_once}
use Rattle.walks.proofs.Members.{not_last}
use Rattle.walks.proofs.Moves.{place_on, same_place, steps_come, stops_last}
use Rattle.walks.proofs.stepping.next_row.Goals as goal

pub returns-then-not-advance-clause-does : goal.returns-then-not-advance-clause-does
returns-then-not-advance-clause-does c L full =
    let rows = c.args.rows.now in
    let joined = c.if-not-joined.ensures.joined.0 refl in
    let room = c.requires in (
      refl,
      no_row_follows (omega arith) joined (stops_last rows L full joined (c.if-not-advance.ensures.ends refl)) refl,
      same_place rows c.advance.new.self (c.if-not-advance.ensures.stays refl),
    )

pub returns-clause-does : goal.returns-clause-does
returns-clause-does c L full =
    let rows = c.args.rows.now in
    let after = c.advance.new.self in
    let steps = c.if-not-advance.ensures.moves refl in
    let joined = c.if-not-joined.ensures.joined.0 refl in
    let room = c.requires in
    let comes = steps_come rows L full after steps in (
      row_of after,
      comes,
      record {
        room = omega arith;
        joined = joined;
        not_last = not_last L (listed_once _ _ L full) _ (row_of after) [] comes;
        writes = (let written = c.write_row.ensures in let row = c.row.ensures in cc);
      },
      place_on after steps.on,
    )
