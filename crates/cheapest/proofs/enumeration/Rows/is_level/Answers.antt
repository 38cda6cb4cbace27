use Rattle.std.proofs.Common.{sym, ◌∙◌, arith}
use Rattle.std.proofs.lemmas.Bool.{false≢true}
use Rattle.cheapest.proofs.Joining.{tree_size}
use Rattle.cheapest.proofs.Stances.{refused, listed_size, listed_bound, listed_marks}
use Rattle.cheapest.proofs.enumeration.Rows.is_level.Goals as goal
use Rattle.cheapest.proofs.enumeration.Rows.is_level.Goals.{then-not-joined-via-then-not-joined, then-not-joined-via-else-not-joined+then-row-self}

pub returns-then-not-joined-clause-refuses : goal.returns-then-not-joined-clause-refuses
returns-then-not-joined-clause-refuses c = λ _. refused (λ l.
    let rows = c.args.self.now in
    let row = c.args.row.now in
    elim c.then-not-joined.branch [
      | then-not-joined-via-then-not-joined w ↦ false≢true (sym w.if-not-joined.true ∙ c.joined.ensures.tree.1 (row, l.row.tree))
      | then-not-joined-via-else-not-joined+then-row-self w ↦ w.if-row-self.true (listed_size rows row l)
    ])

pub returns : goal.returns
returns c =
    let rows = c.args.self.now in
    let row = c.args.row.now in
    record {
      passes = λ e. record {
        joined = omega (arith, rows.whole, tree_size rows.list.plan (c.joined.ensures.tree.0 c.if-not-joined.false));
        size = c.if-row-self.false;
        marks = λ j l. (c.has_marks.ensures.0 e j l).1;
      };
      refuses = λ e. refused (λ l. false≢true (sym e ∙ c.has_marks.ensures.1 (λ j k. (listed_bound rows row l j k, listed_marks rows row l j k))));
    }
