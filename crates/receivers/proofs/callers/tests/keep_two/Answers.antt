use Rattle.std.proofs.Common.{◌≡◌, ℕ, List, [], ◌∷◌, ◌++◌, length, sym, ap, ◌∙◌, subst, rules}
use Rattle.std.proofs.lemmas.List.{take-append-drop}
use Rattle.receivers.specs.Rules.{held_after_all, EndOf}
use Rattle.receivers.specs.Keeping.{keeping}
use Rattle.receivers.specs.Places.{held_in, spare_in}
use Rattle.receivers.proofs.Fronts.{given_back}
use Rattle.receivers.proofs.callers.tests.keep_two.Goals as goal

pub returns : goal.returns
returns c =
    let new = c.new-keeper.ensures in
    let two = c.offer_two.ensures in
    let k = c.offer_two.new.r in
    let cells = c.args.cells.now in
    let rows : List (List ℕ) = c.args.first.now ∷ c.args.second.now ∷ [] in
    let whole = take-append-drop k.used k.cells.now in
    let same : k.cells.ghost_name ≡ c.new-keeper.result.cells.ghost_name = cc two.serves.lender in
    let is : k.cells.now ≡ held_in k ++ spare_in k = sym whole in
    given_back cells _ (held_in k) (spare_in k) _
    (search rules)
    (subst (λ (xs : List ℕ). EndOf xs (spare_in k)) new.unused two.serves.spare)
    (search rules)
    (two.held ∙ ap (λ n. held_after_all (keeping n) (held_in c.new-keeper.result) rows) new.places ∙ ap (λ held. held_after_all (keeping (length cells)) held rows) new.holds)
