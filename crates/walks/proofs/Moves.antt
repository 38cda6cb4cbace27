-- Steps through rows, told by the full list: a step leads to the member that comes next, and where none can be
-- made the place is the last.
use Rattle.std.proofs.Common.{◌≡◌, ℕ, Bool, true, false, cond, List, [], Some, None, Option, sym, refl, ap, ◌∙◌, subst, ap₂, ⊎_elim}
use Rattle.std.proofs.lemmas.Bool.{cases_Bool}
use Rattle.forests.specs.Graphs.{SitesJoined}
use Rattle.weights.specs.Amounts.{numbers}
use Rattle.cheapest.specs.Kept.{kept_on, kept_row}
use Rattle.cheapest.specs.declared.kept.Kept.{Kept}
use Rattle.cheapest.specs.Plans.{graph_of, mark_of}
use Rattle.cheapest.specs.Positions.{plan_of, is_on, row_of, CheapestIn, Steps, Stops, SamePlace}
use Rattle.cheapest.specs.Ranks.{rank}
use Rattle.cheapest.specs.declared.enumeration.Rows.{Rows}
use Rattle.cheapest.proofs.Stances.{standing, row_on}
use Rattle.cheapest.proofs.Standings.{row_cheapest}
use Rattle.walks.specs.Places.{NextMembers, Comes, IsLast}
use Rattle.walks.specs.Walks.{place_in, ListedBy}
use Rattle.walks.proofs.Listed.{on_list, next_comes, first_comes, none_last}

-- The row that a walk is on is a cheapest tree's.
pub on_cheapest : (rows : Rows) → is_on rows ≡ true → CheapestIn (plan_of rows) (row_of rows)
on_cheapest rows on = subst (CheapestIn (plan_of rows)) (sym (row_on rows on)) (row_cheapest (standing rows) (rows.joins on))

pub place_on : (rows : Rows) → is_on rows ≡ true → place_in rows ≡ Some (row_of rows)
place_on rows on = ap (λ (b : Bool). cond b (Some (row_of rows)) None) on

pub place_off : (rows : Rows) → is_on rows ≡ false → place_in rows ≡ None
place_off rows off = ap (λ (b : Bool). cond b (Some (row_of rows)) None) off

pub same_place : (before after : Rows) → SamePlace before after → place_in after ≡ place_in before
same_place before after same = ap₂ (λ (b : Bool) (r : List ℕ). cond b (Some r) None) same.on same.row

-- A walk that went back to a kept place stands where it stood.
pub place_back : (before after : Rows) (kept : Kept) → kept_on kept ≡ is_on before → kept_row kept ≡ row_of before → is_on after ≡ kept_on kept
    → (kept_on kept ≡ true → row_of after ≡ kept_row kept) → place_in after ≡ place_in before
place_back before after kept on row on' row' =
    ⊎_elim
    (λ was. place_on after (on' ∙ was) ∙ ap (λ (r : List ℕ). Some r) (row' was ∙ row) ∙ sym (place_on before (sym on ∙ was)))
    (λ was. place_off after (on' ∙ was) ∙ sym (place_off before (sym on ∙ was)))
    (cases_Bool (kept_on kept))

module _ (rows : Rows) (L : List (List ℕ)) (full : ListedBy (plan_of rows) L) where
  abbrev key : ℕ → ℕ
  key = rank (graph_of (plan_of rows)) numbers (mark_of (plan_of rows))

  -- The place of a walk is a place of the full list.
  pub place_listed : NextMembers L (place_in rows) []
  place_listed =
      ⊎_elim
      (λ on. subst (λ (o : Option (List ℕ)). NextMembers L o []) (sym (place_on rows on)) (on_list key (CheapestIn (plan_of rows)) L full (row_of rows) (on_cheapest rows on)))
      (λ off. subst (λ (o : Option (List ℕ)). NextMembers L o []) (sym (place_off rows off)) (L, refl))
      (cases_Bool (is_on rows))

  pub steps_come : (after : Rows) → Steps rows after → Comes L (place_in rows) (row_of after)
  steps_come after steps =
      ⊎_elim
      (λ on. subst (λ (o : Option (List ℕ)). Comes L o (row_of after)) (sym (place_on rows on))
      (next_comes key (CheapestIn (plan_of rows)) L full (row_of rows) (row_of after) (on_cheapest rows on) (steps.follows on)))
      (λ off. subst (λ (o : Option (List ℕ)). Comes L o (row_of after)) (sym (place_off rows off))
      (first_comes key (CheapestIn (plan_of rows)) L full (row_of after) (steps.begins off).member (steps.begins off).none_before))
      (cases_Bool (is_on rows))

  pub stops_last : SitesJoined (graph_of (plan_of rows)) → Stops rows → IsLast L (place_in rows)
  stops_last joined stops =
      ⊎_elim
      (λ on. subst (IsLast L) (sym (place_on rows on)) (none_last key (CheapestIn (plan_of rows)) L full (row_of rows) (on_cheapest rows on) (stops.no_row on)))
      (λ off. absurd (stops.not_joined off joined))
      (cases_Bool (is_on rows))
