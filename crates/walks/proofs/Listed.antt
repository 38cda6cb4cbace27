-- Places in a listing, told by the order of rows: the row that comes next is the next one, and the last is the
-- one after which none comes. The full list of a graph is such a listing.
use Rattle.std.proofs.Common.{◌≡◌, ℕ, ◌+◌, List, [], ◌∷◌, ◌++◌, length, Some, None, Option, sym, refl, ap, ◌∙◌, subst, inl, inr, arith}
use Rattle.weights.specs.Scales.{Scale}
use Rattle.forests.specs.Graphs.{Graph, SitesJoined}
use Rattle.forests.specs.Lists.{In, Ordered, Different}
use Rattle.forests.proofs.Members.{in_left, in_right}
use Rattle.cheapest.specs.Ranks.{rank}
use Rattle.cheapest.specs.Rows.{Earlier, Listing, Next, NoneAfter}
use Rattle.cheapest.specs.Trees.{Cheapest, FullList}
use Rattle.cheapest.proofs.Orders.{earlier_asym}
use Rattle.cheapest.proofs.Listings.{split_at, none_listed, next_listed, first_listed, listed_next, listed_first, listed_last, none_empty}
use Rattle.walks.specs.Places.{NextMembers, Comes, IsLast}

ordered_once : (key : ℕ → ℕ) (xs : List (List ℕ)) → Ordered (Earlier key) xs → Different xs
ordered_once key [] o = tt
ordered_once key (x ∷ xs) o = (λ m. let e = o.0 x m in earlier_asym key x x e e, ordered_once key xs o.1)

module _ (key : ℕ → ℕ) (P : List ℕ → Type 0) (L : List (List ℕ)) (full : Listing key P L) where
  pub listed_once : Different L
  listed_once = ordered_once key L full.listed

  pub on_list : (here : List ℕ) → P here → NextMembers L (Some here) []
  on_list here p = split_at here L (full.whole here p)

  pub next_comes : (here r : List ℕ) → P here → Next key P here r → Comes L (Some here) r
  next_comes here r p n =
      let s = on_list here p in
      let q = next_listed key P L full s.0 s.1 here r s.2 n in
      (s.0, q.0, s.2 ∙ ap (λ rest. s.0 ++ (here ∷ rest)) q.1)

  pub first_comes : (r : List ℕ) → P r → ((q : List ℕ) → P q → Earlier key q r → ⊥) → Comes L None r
  first_comes r p none = first_listed key P L full r p none

  pub none_last : (here : List ℕ) → P here → NoneAfter key P here → IsLast L (Some here)
  none_last here p none =
      let s = on_list here p in
      (s.0, s.2 ∙ ap (λ rest. s.0 ++ (here ∷ rest)) (none_listed key P L full s.0 s.1 here s.2 none))

  -- and the other way round
  pub comes_next : (here r : List ℕ) → Comes L (Some here) r → Next key P here r
  comes_next here r c = listed_next key P L full c.0 c.1 here r c.2

  pub comes_first : (r : List ℕ) → Comes L None r → P r × ((q : List ℕ) → P q → Earlier key q r → ⊥)
  comes_first r c = listed_first key P L full r c.0 c.1

  pub last_none : (here : List ℕ) → IsLast L (Some here) → NoneAfter key P here
  last_none here l = listed_last key P L full l.0 here l.1

  pub next_not_last : (here r : List ℕ) → Next key P here r → IsLast L (Some here) → ⊥
  next_not_last here r n l = last_none here l r n.member n.later

  -- all that comes next is listed
  pub comes_member : (here : Option (List ℕ)) (rows : List (List ℕ)) → NextMembers L here rows → (row : List ℕ) → In row rows → P row
  comes_member None rows n row m = full.sound row (subst (λ xs. In row xs) (sym n.1) (in_left row rows n.0 m))
  comes_member (Some here) rows n row m =
      full.sound row (subst (λ xs. In row xs) (sym n.2) (in_right row n.0 (here ∷ (rows ++ n.1)) (inr (in_left row rows n.1 m))))

module _ (g : Graph) (s : Scale) (w : ℕ → s.Amount) (L : List (List ℕ)) (full : FullList g s w L) where
  -- where the sites are not joined the full list is empty
  pub not_joined_empty : (SitesJoined g → ⊥) → L ≡ []
  not_joined_empty none = none_empty (rank g s w) (Cheapest g s w) L full (λ r c. none (let size = c.row.tree.size in omega arith, r, c.row.tree.allowed, c.row.tree.joins))

  -- a row that comes next has one entry less than there are sites
  pub row_size : (here : Option (List ℕ)) (row : List ℕ) → Comes L here row → length row + 1 ≡ g.sites
  row_size here row c = (comes_member (rank g s w) (Cheapest g s w) L full here (row ∷ []) c row (inl refl)).row.tree.size
