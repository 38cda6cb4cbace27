use Rattle.std.proofs.Common.{ℕ, map, take, ap, ◌∙◌, arith}
use Rattle.weights.specs.Amounts.{numbers}
use Rattle.weights.specs.Scales.{sum_of}
use Rattle.cheapest.specs.Candidates.{start_of, end_of, class_of}
use Rattle.cheapest.proofs.Belonging.{filled_marks, filled_size}
use Rattle.cheapest.proofs.Filling.{picks_short}
use Rattle.cheapest.proofs.Listed.{ends_fit}
use Rattle.cheapest.proofs.membership.least_total.Goals as goal

pub first_row-size-requires-clause-short : goal.first_row-size-requires-clause-short
first_row-size-requires-clause-short c = let list = c.args.list.now in picks_short (start_of list) (end_of list) list.count (ends_fit list)

pub is_tree-requires : goal.is_tree-requires
is_tree-requires c =
    let filled = c.first_row-size.ensures in
    (filled.few, filled_size c.args.list.now c.first_row-size.new.self.wide filled)

pub returns : goal.returns
returns c =
    let list = c.args.list.now in
    let at = c.first_row-size.new.self.at in (
      c.is_tree.ensures.tree.0 c.if-not-is_tree.false,
      c.total.ensures ∙ ap (λ (n : ℕ). sum_of numbers (map (class_of list) (take n at))) (omega arith)
          ∙ ap (sum_of numbers) (filled_marks list c.first_row-size.ensures),
    )
