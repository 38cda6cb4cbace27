use Rattle.std.proofs.Common.{◌≡◌, ℕ, ◌<◌, List, [], ◌∷◌, map, length, take, set, sym, ap, ◌∙◌, subst, arith}
use Rattle.std.proofs.lemmas.List.{take_more_set}
use Rattle.weights.specs.Amounts.{numbers}
use Rattle.weights.specs.Scales.{sum_of}
use Rattle.cheapest.specs.Scans.{grown}
use Rattle.cheapest.specs.Candidates.{start_of, end_of, class_of}
use Rattle.cheapest.proofs.Belonging.{grown_short}
use Rattle.cheapest.proofs.membership.total_with.Goals as goal

one_taken : (at row : List ℕ) (c : ℕ) → length at ≡ 64 → row ≡ set at 0 c → take 1 row ≡ c ∷ []
one_taken at row c wide e = ap (take 1) e ∙ take_more_set at 0 c (omega arith)

pub first_row-size-requires-clause-short : goal.first_row-size-requires-clause-short
first_row-size-requires-clause-short c =
    let list = c.args.list.now in
    let walk = c.empty-walk.result in
    subst (λ (front : List ℕ). length (grown (start_of list) (end_of list) list.count front 0) < 64) (sym (one_taken walk.at c.choose.new.self.at c.args.c walk.wide c.choose.ensures.row))
    (grown_short list c.args.c c.requires.within c.requires.apart)

pub returns : goal.returns
returns c =
    let list = c.args.list.now in
    let walk = c.empty-walk.result in
    let after = c.choose.new.self in
    c.total.ensures
    ∙ ap (λ (xs : List ℕ). sum_of numbers (map (class_of list) xs))
    (ap (λ (n : ℕ). take n c.first_row-size.new.self.at) (omega arith)
    ∙ c.first_row-size.ensures.whole
    ∙ ap (λ (front : List ℕ). grown (start_of list) (end_of list) list.count front 0) (one_taken walk.at after.at c.args.c walk.wide c.choose.ensures.row))
