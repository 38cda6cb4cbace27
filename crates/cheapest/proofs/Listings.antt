-- Where a row stands in a full list. The row that stands right after another is the next one, the last
-- has none after it, and the head is the first; and the other way round. So a walk that goes from the
-- first row to the next, and on until none follows, gives the members of the list in their order.
use Rattle.std.proofs.Common.{◌≡◌, ℕ, List, [], ◌∷◌, ◌++◌, sym, refl, ap, subst, inl, inr}
use Rattle.forests.specs.Lists.{In, Ordered}
use Rattle.forests.proofs.Members.{in_right, in_either}
use Rattle.cheapest.specs.Rows.{Earlier, Listing, Next, NoneAfter}
use Rattle.cheapest.proofs.Orders.{ordered_across, ordered_rest, earlier_asym}

-- the list on both sides of a member
pub split_at : {A : Type 0} (x : A) (xs : List A) → In x xs → (front : List A) × (rest : List A) × (xs ≡ front ++ (x ∷ rest))
split_at x [] m = absurd m
split_at x (y ∷ ys) (inl e) = ([], ys, ap (λ z. z ∷ ys) (sym e))
split_at x (y ∷ ys) (inr m) = let p = split_at x ys m in (y ∷ p.0, p.1, ap (λ t. y ∷ t) p.2)

module _ (key : ℕ → ℕ) (P : List ℕ → Type 0) (L : List (List ℕ)) (full : Listing key P L) where
  never : (r : List ℕ) → Earlier key r r → ⊥
  never r e = earlier_asym key r r e e

  -- a member that comes after here stands after it
  stands_after : (front rest : List (List ℕ)) (here r : List ℕ) → L ≡ front ++ (here ∷ rest) → P r → Earlier key here r → In r rest
  stands_after front rest here r e p later =
      let o = subst (λ xs. Ordered (Earlier key) xs) e full.listed in
      elim (in_either r front (here ∷ rest) (subst (λ xs. In r xs) e (full.whole r p))) [
        | inl a ↦ absurd (earlier_asym key here r later (ordered_across (Earlier key) front (here ∷ rest) o r here a (inl refl)))
        | inr (inl h) ↦ absurd (never here (subst (λ z. Earlier key here z) h later))
        | inr (inr b) ↦ b
      ]

  order_from : (front rest : List (List ℕ)) → L ≡ front ++ rest → Ordered (Earlier key) rest
  order_from front rest e = ordered_rest (Earlier key) front rest (subst (λ xs. Ordered (Earlier key) xs) e full.listed)

  pub listed_next : (front rest : List (List ℕ)) (here r : List ℕ) → L ≡ front ++ (here ∷ (r ∷ rest)) → Next key P here r
  listed_next front rest here r e =
      let o = order_from front (here ∷ (r ∷ rest)) e in
      record {
        member = full.sound r (subst (λ xs. In r xs) (sym e) (in_right r front (here ∷ (r ∷ rest)) (inr (inl refl))));
        later = o.0 r (inl refl);
        none_between = λ q p after before. elim (stands_after front (r ∷ rest) here q e p after) [
          | inl h ↦ never r (subst (λ z. Earlier key z r) h before)
          | inr m ↦ earlier_asym key q r before (o.1.0 q m)
        ];
      }

  pub listed_last : (front : List (List ℕ)) (here : List ℕ) → L ≡ front ++ (here ∷ []) → NoneAfter key P here
  listed_last front here e q p after = stands_after front [] here q e p after

  pub none_listed : (front rest : List (List ℕ)) (here : List ℕ) → L ≡ front ++ (here ∷ rest) → NoneAfter key P here → rest ≡ []
  none_listed front [] here e none = refl
  none_listed front (q ∷ rest) here e none =
      let n = listed_next front rest here q e in absurd (none q n.member n.later)

  pub next_listed : (front rest : List (List ℕ)) (here r : List ℕ) → L ≡ front ++ (here ∷ rest) → Next key P here r
      → (rest' : List (List ℕ)) × (rest ≡ r ∷ rest')
  next_listed front [] here r e n = absurd (stands_after front [] here r e n.member n.later)
  next_listed front (q ∷ rest) here r e n =
      let o = order_from front (here ∷ (q ∷ rest)) e in
      let m = listed_next front rest here q e in
      elim (stands_after front (q ∷ rest) here r e n.member n.later) [
        | inl h ↦ (rest, ap (λ z. z ∷ rest) (sym h))
        | inr k ↦ absurd (n.none_between q m.member m.later (o.1.0 r k))
      ]

  -- the head of the list, and an empty list
  pub first_listed : (r : List ℕ) → P r → ((q : List ℕ) → P q → Earlier key q r → ⊥) → (rest : List (List ℕ)) × (L ≡ r ∷ rest)
  first_listed r p none = go (split_at r L (full.whole r p)).0 (split_at r L (full.whole r p)).1 (split_at r L (full.whole r p)).2
    where
      go : (front rest : List (List ℕ)) → L ≡ front ++ (r ∷ rest) → (rest' : List (List ℕ)) × (L ≡ r ∷ rest')
      go [] rest e = (rest, e)
      go (q ∷ front) rest e =
          let o = order_from [] ((q ∷ front) ++ (r ∷ rest)) e in
          absurd (none q (full.sound q (subst (λ xs. In q xs) (sym e) (inl refl))) (o.0 r (in_right r front (r ∷ rest) (inl refl))))

  pub listed_first : (r : List ℕ) (rest : List (List ℕ)) → L ≡ r ∷ rest → P r × ((q : List ℕ) → P q → Earlier key q r → ⊥)
  listed_first r rest e = (
    full.sound r (subst (λ xs. In r xs) (sym e) (inl refl)),
    λ q p before. elim (subst (λ xs. In q xs) e (full.whole q p)) [
      | inl h ↦ never r (subst (λ z. Earlier key z r) h before)
      | inr m ↦ earlier_asym key q r before ((order_from [] (r ∷ rest) e).0 q m)
    ],
  )

  pub none_empty : ((r : List ℕ) → P r → ⊥) → L ≡ []
  none_empty none = go L full
    where
      go : (M : List (List ℕ)) → Listing key P M → M ≡ []
      go [] f = refl
      go (r ∷ M) f = absurd (none r (f.sound r (inl refl)))
