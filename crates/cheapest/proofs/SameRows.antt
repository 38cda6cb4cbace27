-- Cheapest trees depend on comparisons alone. If the amounts of two scales compare alike, links have
-- the same ranks under both, so the candidates, the first row and the rows of trees are the same; and
-- where two rows have the same amounts at every position on one scale, they have on the other. With
-- the theorem on positions the cheapest rows are the same, and with them the full list.
use Rattle.std.proofs.Common.{◌≡◌, ℕ, ◌<◌, List, [], ◌∷◌, map, length, sym, refl, ap, ◌∙◌, ap₂, inl, inr, arith}
use Rattle.forests.specs.Lists.{In, Rising}
use Rattle.forests.specs.Closures.{picks}
use Rattle.forests.specs.Graphs.{Graph, Fits}
use Rattle.forests.specs.Labels.{closes_ring}
use Rattle.forests.proofs.Completion.{picks_within}
use Rattle.weights.specs.Scales.{Scale, Lawful}
use Rattle.cheapest.specs.Ranks.{rank, Alike}
use Rattle.cheapest.specs.Rows.{Earlier}
use Rattle.cheapest.specs.Trees.{Row, Cheapest}
use Rattle.cheapest.specs.Completions.{candidates, first}
use Rattle.cheapest.specs.Theorems.{SameRows}
use Rattle.cheapest.proofs.Orders.{ordered_weaker}
use Rattle.cheapest.proofs.Amounts.{le_refl}
use Rattle.cheapest.proofs.Ranks.{rank_alike}
use Rattle.cheapest.proofs.Sorting.{rising_unique}
use Rattle.cheapest.proofs.FullLists.{listing_alike}
use Rattle.cheapest.proofs.TreeRows.{candidate_allowed, allowed_candidate, candidates_rising}
use Rattle.cheapest.proofs.Theorems.{position}

-- keys that agree on the links below m order such links alike
module _ (key key' : ℕ → ℕ) (m : ℕ) (agree : (e : ℕ) → e < m → key e ≡ key' e) where
  pub rising_alike : (xs : List ℕ) → ((e : ℕ) → In e xs → e < m) → Rising key xs → Rising key' xs
  rising_alike xs small = ordered_weaker (λ x y. key x < key y) (λ x y. key' x < key' y) xs
      (λ x y a b l. omega (arith, agree x (small x a), agree y (small y b)))

  pub earlier_alike : (xs ys : List ℕ) → ((e : ℕ) → In e xs → e < m) → ((e : ℕ) → In e ys → e < m) → Earlier key xs ys → Earlier key' xs ys
  earlier_alike [] ys a b e = e
  earlier_alike (x ∷ xs) [] a b e = e
  earlier_alike (x ∷ xs) (y ∷ ys) a b (inl l) = inl (omega (arith, agree x (a x (inl refl)), agree y (b y (inl refl))))
  earlier_alike (x ∷ xs) (y ∷ ys) a b (inr e) = inr (e.0, earlier_alike xs ys (λ z h. a z (inr h)) (λ z h. b z (inr h)) e.1)

module _ (s s' : Scale) (laws : Lawful s) (laws' : Lawful s') (g : Graph) (w : ℕ → s.Amount) (w' : ℕ → s'.Amount) (alike : Alike s s' w w' g.links) where
  ranks_agree : (e : ℕ) → e < g.links → rank g s w e ≡ rank g s' w' e
  ranks_agree e l = rank_alike s s' w w' g.links e alike l

  pub candidates_alike : candidates g (rank g s w) ≡ candidates g (rank g s' w')
  candidates_alike =
      let key = rank g s w in
      let key' = rank g s' w' in
      let cs = candidates g key in
      let cs' = candidates g key' in
      rising_unique key' cs cs'
      (rising_alike key key' g.links ranks_agree cs (λ e m. (candidate_allowed g key e m).0) (candidates_rising g s laws w))
      (candidates_rising g s' laws' w')
      (allowed_candidate g key' cs (candidate_allowed g key))
      (allowed_candidate g key cs' (candidate_allowed g key'))

  pub first_alike : first g s w ≡ first g s' w'
  first_alike = ap (λ cs. picks (closes_ring g) [] cs) candidates_alike

  pub amounts_alike : (xs ys : List ℕ) → ((e : ℕ) → In e xs → e < g.links) → ((e : ℕ) → In e ys → e < g.links) → map w xs ≡ map w ys → map w' xs ≡ map w' ys
  amounts_alike [] [] a b e = refl
  amounts_alike [] (y ∷ ys) a b e = absurd (omega (arith, ap length e))
  amounts_alike (x ∷ xs) [] a b e = absurd (omega (arith, ap length e))
  amounts_alike (x ∷ xs) (y ∷ ys) a b e =
      let lx = a x (inl refl) in
      let ly = b y (inl refl) in
      let head : w x ≡ w y = cc in
      let tail : map w xs ≡ map w ys = cc in
      ap₂ (λ h t. h ∷ t)
      (laws'.antisym (w' x) (w' y) (sym (alike x y lx ly) ∙ le_refl s laws (w x) (w y) head) (sym (alike y x ly lx) ∙ le_refl s laws (w y) (w x) (sym head)))
      (amounts_alike xs ys (λ z h. a z (inr h)) (λ z h. b z (inr h)) tail)

  module _ (fits : Fits g) where
    pub cheapest_alike : (r : List ℕ) → Cheapest g s w r → Cheapest g s' w' r
    cheapest_alike r c =
        let small : (e : ℕ) → In e r → e < g.links = λ e m. (c.row.tree.allowed e m).0 in
        let row' : Row g (rank g s' w') r = record {
          tree = c.row.tree;
          rises = rising_alike (rank g s w) (rank g s' w') g.links ranks_agree r small c.row.rises;
        } in
        (position s' laws' g fits w' r row').1
        (amounts_alike r (first g s w) small
        (λ e m. (candidate_allowed g (rank g s w) e (picks_within (closes_ring g) [] (candidates g (rank g s w)) e m)).0)
        ((position s laws g fits w r c.row).0 c)
        ∙ ap (map w') first_alike)

alike_back : (s s' : Scale) (w : ℕ → s.Amount) (w' : ℕ → s'.Amount) (m : ℕ) → Alike s s' w w' m → Alike s' s w' w m
alike_back s s' w w' m h x y lx ly = sym (h x y lx ly)

module _ (s s' : Scale) (laws : Lawful s) (laws' : Lawful s') where
  pub same_rows : SameRows s s'
  same_rows g fits w w' alike =
      let back = alike_back s s' w w' g.links alike in
      let there-row = cheapest_alike s s' laws laws' g w w' alike fits in
      let back-row = cheapest_alike s' s laws' laws g w' w back fits in (
        (λ r. (there-row r, back-row r)),
        (λ L. (
          (λ full. listing_alike (rank g s w) (rank g s' w') (Cheapest g s w) (Cheapest g s' w') L there-row back-row
              (λ r q c d. earlier_alike (rank g s w) (rank g s' w') g.links (λ e l. rank_alike s s' w w' g.links e alike l) r q
              (λ e m. (c.row.tree.allowed e m).0) (λ e m. (d.row.tree.allowed e m).0)) full),
          (λ full. listing_alike (rank g s' w') (rank g s w) (Cheapest g s' w') (Cheapest g s w) L back-row there-row
              (λ r q c d. earlier_alike (rank g s' w') (rank g s w) g.links (λ e l. rank_alike s' s w' w g.links e back l) r q
              (λ e m. (c.row.tree.allowed e m).0) (λ e m. (d.row.tree.allowed e m).0)) full),
        )),
      )
