-- Full lists found by computing: from the first row each row is followed by its last good departure, until a
-- row has none. A chain of rows that goes so to the end is the full list.
use Rattle.std.proofs.Common.{◌≡◌, ℕ, zero, suc, ◌+◌, ◌<◌, Bool, false, cond, List, [], ◌∷◌, ◌++◌, map, length, is_some, Some, None, Option, unwrap_or, sym, ap, ◌∙◌, subst, inl, inr, append_assoc, arith}
use Rattle.std.proofs.lemmas.Slice.Eq.{bytes_eq-Decides}
use Rattle.std.proofs.lemmas.Bool.{cases_Bool, cases_lt, cond-true, cond-false, true≢false}
use Rattle.std.proofs.lemmas.Bool.Decides.{not_from_Decides}
use Rattle.std.specs.Str.{bytes_eq}
use Rattle.forests.specs.Graphs.{Graph, Fits}
use Rattle.weights.specs.Amounts.{numbers}
use Rattle.cheapest.specs.Completions.{first, departs, Good}
use Rattle.cheapest.specs.Ranks.{rank}
use Rattle.cheapest.specs.Rows.{Earlier}
use Rattle.cheapest.specs.Trees.{Cheapest, FullList, Follows}
use Rattle.cheapest.proofs.Listings.{first_listed, next_listed, none_listed}
use Rattle.cheapest.proofs.Numbers.{numbers_lawful}
use Rattle.cheapest.proofs.Theorems.{first_row, successor, one_list}

module _ (g : Graph) (w : ℕ → ℕ) where
  -- the departure at i is good
  abbrev pub good : List ℕ → ℕ → Bool
  good r i = bytes_eq (map w (departs g numbers w r i)) (map w r)

  -- the last good departure below i
  abbrev pub last_good : List ℕ → ℕ → Option (List ℕ)
  last_good r zero = None
  last_good r (suc i) = cond (good r i) (Some (departs g numbers w r i)) (last_good r i)

  -- the rows go on from r, each followed by the next, and none follows the last
  abbrev pub Chain : List ℕ → List (List ℕ) → Type 0
  Chain r [] = last_good r (length r) ≡ None
  Chain r (q ∷ rows) = (last_good r (length r) ≡ Some q) × Chain q rows

  not_good : (r : List ℕ) (k : ℕ) → good r k ≡ false → Good g numbers w r k → ⊥
  not_good r k = not_from_Decides (good r k) (bytes_eq-Decides (map w (departs g numbers w r k)) (map w r))

  none_good : (r : List ℕ) (k : ℕ) → last_good r k ≡ None → (i : ℕ) → i < k → Good g numbers w r i → ⊥
  none_good r zero e i l h = omega arith
  none_good r (suc k) e i l h = elim (cases_Bool (good r k)) [
    | inl t ↦ true≢false (ap is_some (sym (cond-true (good r k) (Some (departs g numbers w r k)) (last_good r k) t) ∙ e))
    | inr f ↦ elim (cases_lt i k) [
      | inl m ↦ none_good r k (sym (cond-false (good r k) (Some (departs g numbers w r k)) (last_good r k) f) ∙ e) i m h
      | inr m ↦ not_good r k f (subst (λ j. Good g numbers w r j) (omega arith) h)
    ]
  ]

  is_good : (r q : List ℕ) (k : ℕ) → last_good r k ≡ Some q
      → (i : ℕ) × (i < k) × Good g numbers w r i × (departs g numbers w r i ≡ q) × ((j : ℕ) → i < j → j < k → Good g numbers w r j → ⊥)
  is_good r q zero e = absurd (true≢false (ap is_some (sym e)))
  is_good r q (suc k) e = elim (cases_Bool (good r k)) [
    | inl t ↦ (
      k,
      omega arith,
      (bytes_eq-Decides (map w (departs g numbers w r k)) (map w r)).0 t,
      ap (λ o. unwrap_or o []) (sym (cond-true (good r k) (Some (departs g numbers w r k)) (last_good r k) t) ∙ e),
      λ j a b. absurd (omega arith),
    )
    | inr f ↦
        let (i, l, h, same, none) = is_good r q k (sym (cond-false (good r k) (Some (departs g numbers w r k)) (last_good r k) f) ∙ e) in (
          i,
          omega arith,
          h,
          same,
          λ j a b x. elim (cases_lt j k) [
            | inl m ↦ none j a m x
            | inr m ↦ not_good r k f (subst (λ z. Good g numbers w r z) (omega arith) x)
          ],
        )
  ]

  module _ (fits : Fits g) where
    rest_chained : (L : List (List ℕ)) → FullList g numbers w L → (rows front rest : List (List ℕ)) (here : List ℕ)
        → L ≡ front ++ (here ∷ rest) → Cheapest g numbers w here → Chain here rows → rest ≡ rows
    rest_chained L full [] front rest here e c none =
        none_listed (rank g numbers w) (Cheapest g numbers w) L full front rest here e
        ((successor numbers numbers_lawful g fits w here c).1 (none_good here (length here) none))
    rest_chained L full (q ∷ rows) front rest here e c chain =
        let (i, l, h, same, none) = is_good here q (length here) chain.0 in
        let n : Follows g numbers w here q = subst (λ z. Follows g numbers w here z) same ((successor numbers numbers_lawful g fits w here c).0 i l h none) in
        let (more, r) = next_listed (rank g numbers w) (Cheapest g numbers w) L full front rest here q e n in
        let there = e ∙ ap (λ z. front ++ (here ∷ z)) r ∙ sym (append_assoc front (here ∷ []) (q ∷ more)) in
        r ∙ ap (λ z. q ∷ z) (rest_chained L full rows (front ++ (here ∷ [])) more q there n.member chain.1)

    -- the first row and a chain from it are the full list
    pub chain_lists : (r : List ℕ) (rows : List (List ℕ)) → first g numbers w ≡ r → length r + 1 ≡ g.sites → Chain r rows → FullList g numbers w (r ∷ rows)
    chain_lists r rows is size chain =
        let f = first_row numbers numbers_lawful g fits w in
        let c : Cheapest g numbers w r = subst (λ z. Cheapest g numbers w z) is (f.0 (ap (λ z. length z + 1) is ∙ size)) in
        let (L, full, one) = one_list numbers numbers_lawful g fits w in
        let (rest, e) = first_listed (rank g numbers w) (Cheapest g numbers w) L full r c (λ q p before. f.1 q p (subst (λ z. Earlier (rank g numbers w) q z) (sym is) before)) in
        subst (λ z. FullList g numbers w z) (e ∙ ap (λ z. r ∷ z) (rest_chained L full rows [] rest r e c chain)) full

    -- where the first row is too short there is none
    pub short_lists : (length (first g numbers w) + 1 ≡ g.sites → ⊥) → FullList g numbers w []
    short_lists short = record {
      sound = λ r m. absurd m;
      whole = λ r c. (first_row numbers numbers_lawful g fits w).2 short r c.row.tree;
      listed = tt;
    }
