use Rattle.std.proofs.Common.{◌≡◌, ℕ, ◌<◌, List, map, sum_by, sym, refl, ◌∙◌, arith, rules}
use Rattle.std.proofs.iter.runs.Made.{chains}
use Rattle.std.proofs.lemmas.List.{get_or_default}
use Rattle.std.proofs.lemmas.Iterator.{YieldsList-from_slice}
use Rattle.std.proofs.lemmas.Iterator.Adapters.{serves_from_places}
use Rattle.std.proofs.lemmas.List.Recursion.{is_sum_by}
use Rattle.weights.specs.Amounts.{numbers}
use Rattle.weights.specs.Scales.{sum_of}
use Rattle.cheapest.specs.Candidates.{class_of}
use Rattle.cheapest.proofs.membership.total.Goals as goal

pub sum-requires-clause-can : goal.sum-requires-clause-can
sum-requires-clause-can c = (
  tt,
  serves_from_places (YieldsList-from_slice c.args.row.now cc) (λ x q r. search rules)
      (λ x k l e. let small : x.now < 512 = omega (arith, c.requires.inside k l, e, get_or_default c.args.row.now k x.now 0 l) in search rules),
)

pub returns : goal.returns
returns c =
    let w = class_of c.args.list.now in
    let sums : c.sum.result ≡ sum_by w c.args.row.now = search (rules, chains) in
    sums ∙ sym (is_sum_by (λ (xs : List ℕ). sum_of numbers (map w xs)) w refl (λ _ _. refl) c.args.row.now)
