-- Links that stand in for one another in a plan are substitutes in the network that it stands for, and no others.
use Rattle.std.proofs.Common.{◌≡◌, ℕ, cond, leb, ◌↔◌, List, [], ◌∷◌, ◌++◌, Some, None, Option, sym, refl, ap, ◌∙◌, subst, ap₂, inl, inr, MatchOption}
use Rattle.forests.specs.Graphs.{Graph, Fits}
use Rattle.forests.specs.Lists.{In}
use Rattle.weights.specs.Amounts.{numbers}
use Rattle.weights.specs.Scales.{Scale, Lawful}
use Rattle.cheapest.specs.Completions.{insert, sorted}
use Rattle.cheapest.specs.Plans.{graph_of, mark_of}
use Rattle.cheapest.specs.Ranks.{rank, Alike}
use Rattle.cheapest.specs.StandIns.{StandsIn, FirstStandIn}
use Rattle.cheapest.specs.Trees.{Cheapest}
use Rattle.cheapest.specs.declared.plan.Plan.{Plan}
use Rattle.cheapest.proofs.Listed.{plan_fits}
use Rattle.cheapest.proofs.Numbers.{numbers_lawful}
use Rattle.cheapest.proofs.Ranks.{rank_alike}
use Rattle.cheapest.proofs.SameRows.{same_rows}
use Rattle.cheapest.proofs.Sorting.{sorted_in, in_sorted}
use Rattle.walks.specs.Substitutes.{Substitutes, Answers}

-- keys that agree on a list sort it alike
module _ (key key' : ℕ → ℕ) where
  insert_alike : (x : ℕ) (ys : List ℕ) → key x ≡ key' x → ((y : ℕ) → In y ys → key y ≡ key' y) → insert key x ys ≡ insert key' x ys
  insert_alike x [] h agree = refl
  insert_alike x (y ∷ ys) h agree =
      ap₂ (λ a b. cond (leb a b) (x ∷ (y ∷ ys)) (y ∷ insert key x ys)) h (agree y (inl refl))
      ∙ ap (λ (zs : List ℕ). cond (leb (key' x) (key' y)) (x ∷ (y ∷ ys)) (y ∷ zs)) (insert_alike x ys h (λ z m. agree z (inr m)))

  sorted_alike : (xs : List ℕ) → ((y : ℕ) → In y xs → key y ≡ key' y) → sorted key xs ≡ sorted key' xs
  sorted_alike [] agree = refl
  sorted_alike (x ∷ xs) agree =
      insert_alike x (sorted key xs) (agree x (inl refl)) (λ y m. agree y (inr (sorted_in key y xs m)))
      ∙ ap (insert key' x) (sorted_alike xs (λ y m. agree y (inr m)))

-- a cheapest row that is sorted by one rank is sorted by the other
swap_alike : (g : Graph) (s s' : Scale) (w : ℕ → s.Amount) (w' : ℕ → s'.Amount) → Alike s s' w w' g.links → ((r : List ℕ) → Cheapest g s w r → Cheapest g s' w' r)
    → (xs : List ℕ) → Cheapest g s w (sorted (rank g s w) xs) → Cheapest g s' w' (sorted (rank g s' w') xs)
swap_alike g s s' w w' alike to xs c =
    subst (Cheapest g s' w')
    (sorted_alike (rank g s w) (rank g s' w') xs (λ y m. rank_alike s s' w w' g.links y alike (c.row.tree.allowed y (in_sorted (rank g s w) y xs m)).0))
    (to (sorted (rank g s w) xs) c)

module _ (p : Plan) (g : Graph) (is : graph_of p ≡ g) (s : Scale) (laws : Lawful s) (w : ℕ → s.Amount) (alike : Alike numbers s (mark_of p) w g.links) (row : List ℕ) (e : ℕ) where
  fits : Fits g
  fits = subst Fits is (plan_fits p)

  same : (r : List ℕ) → Cheapest g numbers (mark_of p) r ↔ Cheapest g s w r
  same = (same_rows numbers s numbers_lawful laws g fits (mark_of p) w alike).0

  there : (f : ℕ) → StandsIn p row e f → Substitutes g s w row e f
  there f t = record {
    other = t.other;
    swaps = λ front back split. swap_alike g numbers s (mark_of p) w alike (λ r. (same r).0) (f ∷ (front ++ back))
        (subst (λ (h : Graph). Cheapest h numbers (mark_of p) (sorted (rank h numbers (mark_of p)) (f ∷ (front ++ back)))) is (t.swaps front back split));
  }

  back : (f : ℕ) → Substitutes g s w row e f → StandsIn p row e f
  back f t = record {
    other = t.other;
    swaps = λ front behind split. subst (λ (h : Graph). Cheapest h numbers (mark_of p) (sorted (rank h numbers (mark_of p)) (f ∷ (front ++ behind)))) (sym is)
        (swap_alike g s numbers w (mark_of p) (λ x y k l. sym (alike x y k l)) (λ r. (same r).1) (f ∷ (front ++ behind)) (t.swaps front behind split));
  }

  pub answered : (o : Option ℕ) → In e row → MatchOption o ((f : ℕ) → In e row → StandsIn p row e f → ⊥) (λ f. FirstStandIn p row e f) → Answers g s w row e o
  answered None inside none = λ f t. none f inside (back f t)
  answered (Some f) inside some = there f some.stands
