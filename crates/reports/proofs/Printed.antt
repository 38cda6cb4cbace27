-- From the first rows to those that are printed.
use Rattle.std.proofs.Common.{◌≡◌, ℕ, ◌<◌, ◌≤◌, true, false, List, [], ◌∷◌, ◌++◌, length, Some, None, Option, sym, refl, ap, ◌∙◌, subst, inl, inr, append_assoc, append-nil, arith}
use Rattle.forests.specs.Graphs.{SitesJoined}
use Rattle.forests.specs.Lists.{In}
use Rattle.forests.proofs.Members.{in_left}
use Rattle.weights.specs.Scales.{Lawful, Weighing}
use Rattle.cheapest.specs.Ranks.{rank}
use Rattle.cheapest.specs.Trees.{Cheapest}
use Rattle.cheapest.proofs.Theorems.{one_list}
use Rattle.networks.specs.Networks.{network_graph, weights_of}
use Rattle.networks.specs.declared.networks.Network.{Network}
use Rattle.walks.specs.Answering.{letter_l, letter_x}
use Rattle.walks.specs.Places.{NextMembers, Comes, IsLast, last_of}
use Rattle.walks.specs.Walks.{network_of, place_of, Listed}
use Rattle.walks.specs.declared.walks.Walk.{Walk}
use Rattle.walks.proofs.Alikes.{network_fits}
use Rattle.walks.proofs.Listed.{listed_once, comes_member}
use Rattle.walks.proofs.Members.{Behind, behind_all, one_behind, next_more}
use Rattle.reports.specs.Filling.{Stops, at_limit, no_tree, no_more, SaysFollows, ListsRows, ListsPrinted}
use Rattle.reports.specs.Listing.{Printed, no_tree as prints-none, all as prints-all, first as prints-first}

-- the last of some rows is one of them
last_in : (row : List ℕ) (rows : List (List ℕ)) → (last : List ℕ) × (last_of (Some row) rows ≡ Some last) × In last (row ∷ rows)
last_in row [] = (row, refl, inl refl)
last_in row (next ∷ rows) = let (last, is, member) = last_in next rows in (last, is, inr member)

module _ {K : Type 0} (kind : Weighing K) (n : Network K) (L : List (List ℕ)) (full : Listed kind n L) where
  last_behind : (here : Option (List ℕ)) → IsLast L here → Behind L here []
  last_behind None last = absurd last
  last_behind (Some here) last = last

  -- rows that end with the last are all
  ends_here : (rows : List (List ℕ)) → NextMembers L None rows → IsLast L (last_of None rows) → L ≡ rows
  ends_here rows next last =
      let none = one_behind L (listed_once _ _ L full) (last_of None rows) next.0 [] (behind_all L None rows next.0 next.1) (last_behind (last_of None rows) last) in
      next.1 ∙ ap (λ zs. rows ++ zs) none ∙ append-nil rows

  -- the row that follows them
  goes_on : (rows : List (List ℕ)) (row : List ℕ) → NextMembers L None rows → Comes L (last_of None rows) row → (after : List (List ℕ)) × (L ≡ rows ++ (row ∷ after))
  goes_on rows row next comes =
      let (after, is) = next_more L (listed_once _ _ L full) None rows (row ∷ []) next comes in
      (after, is ∙ append_assoc rows (row ∷ []) after)

  row_listed : (here : Option (List ℕ)) (row : List ℕ) → Comes L here row → In row L
  row_listed here row comes = full.whole row (comes_member (rank (network_graph n) kind.scale (weights_of kind n)) (Cheapest (network_graph n) kind.scale (weights_of kind n)) L full here (row ∷ []) comes row (inl refl))

  -- where there is a row the sites are joined
  rows_joined : (row : List ℕ) → In row L → SitesJoined (network_graph n)
  rows_joined row m = let c = full.sound row m in let size = c.row.tree.size in (omega arith, row, c.row.tree.allowed, c.row.tree.joins)

  -- where there are rows, the last of them is listed
  pub on_row : (rows : List (List ℕ)) → 0 < length rows → NextMembers L None rows → (row : List ℕ) × (last_of None rows ≡ Some row) × In row L
  on_row [] some next = absurd (omega arith)
  on_row (row ∷ rows) some next =
      let (last, is, member) = last_in row rows in
      (last, is, subst (λ xs. In last xs) (sym next.1) (in_left last (row ∷ rows) next.0 member))

  no_rows : (rows : List (List ℕ)) → NextMembers L None rows → (SitesJoined (network_graph n) → ⊥) → rows ≡ []
  no_rows [] next none = refl
  no_rows (row ∷ rows) next none = absurd (none (let (last, is, member) = on_row (row ∷ rows) (omega arith) next in rows_joined last member))

module _ {K : Type 0} (kind : Weighing K) (before now : Walk K) {S : Type 0} (took : S → List ℕ → S → Type 0) (start end : S)
    (count letter : ℕ) (lists : ListsRows kind before now took start end 1000 count letter) where
  abbrev J : Type 0
  J = SitesJoined (network_graph (network_of before))

  other_printed : (L : List (List ℕ)) → Listed kind (network_of before) L → (rows : List (List ℕ)) → length rows ≡ count → count ≤ 1000 → NextMembers L None rows → place_of now ≡ last_of None rows
      → (letter ≡ letter_l → ⊥) → Stops L J 1000 count (place_of now) letter → Printed L J rows letter
  other_printed L full rows long few next place other (at_limit e l) = absurd (other l)
  other_printed L full rows long few next place other (no_tree j l) = prints-none j (no_rows kind (network_of before) L full rows next j) l
  other_printed L full rows long few next place other (no_more j last l) =
      prints-all j (omega arith) (ends_here kind (network_of before) L full rows next (subst (λ (o : Option (List ℕ)). IsLast L o) place last)) l

  -- it ended before the limit
  pub listed_other : count ≤ 1000 → (letter ≡ letter_l → ⊥) → ListsPrinted kind before now took start end count letter
  listed_other few other L full =
      let (rows, long, next, place, put, why) = lists L full in (
        rows,
        long,
        put,
        other_printed L full rows long few next place other why,
        λ some. let (row, is, member) = on_row kind (network_of before) L full rows (omega arith) next in (row, place ∙ is, member),
      )

  limit_count : (L : List (List ℕ)) → letter ≡ letter_l → Stops L J 1000 count (place_of now) letter → count ≡ 1000
  limit_count L l (at_limit e _) = e
  limit_count L l (no_tree j l') = absurd (omega arith)
  limit_count L l (no_more j last l') = absurd (omega arith)

  module _ (next : Walk K) (is-limit : letter ≡ letter_l) (same : network_of now ≡ network_of before) where
    listed_now : (L : List (List ℕ)) → Listed kind (network_of before) L → Listed kind (network_of now) L
    listed_now L full = subst (λ (n : Network K). Listed kind n L) (sym same) full

    -- a row follows
    pub listed_more : SaysFollows kind now next true → ListsPrinted kind before next took start end count letter_l
    listed_more follows L full =
        let (rows, long, members, place, put, why) = lists L full in
        let (row, comes, on) = follows L (listed_now L full) in
        let comes' = subst (λ (o : Option (List ℕ)). Comes L o row) place comes in
        let member = row_listed kind (network_of before) L full (last_of None rows) row comes' in
        let (after, is) = goes_on kind (network_of before) L full rows row members comes' in
        (rows, long, put, prints-first (rows_joined kind (network_of before) L full row member) (long ∙ limit_count L is-limit why) row after is refl, λ some. (row, on, member))

    -- none follows
    pub listed_last : SaysFollows kind now next false → ListsPrinted kind before next took start end count letter_x
    listed_last follows L full =
        let (rows, long, members, place, put, why) = lists L full in
        let (none, stays) = follows L (listed_now L full) in
        let many = limit_count L is-limit why in
        let (row, is, member) = on_row kind (network_of before) L full rows (omega arith) members in
        let joined = rows_joined kind (network_of before) L full row member in
        let last : IsLast L (place_of now) = elim none [
          | inl j ↦ absurd (j (subst (λ (n : Network K). SitesJoined (network_graph n)) (sym same) joined))
          | inr last ↦ last
        ] in (
          rows,
          long,
          put,
          prints-all joined (omega arith) (ends_here kind (network_of before) L full rows members (subst (λ (o : Option (List ℕ)). IsLast L o) place last)) refl,
          λ some. (row, stays ∙ place ∙ is, member),
        )

  letter_of : (L : List (List ℕ)) → Stops L J 1000 count (place_of now) letter → (letter < 128)
  letter_of L (at_limit e l) = omega arith
  letter_of L (no_tree j l) = omega arith
  letter_of L (no_more j last l) = omega arith

  pub letter_small : Lawful kind.scale → letter < 128
  letter_small laws =
      let list = one_list kind.scale laws (network_graph (network_of before)) (network_fits (network_of before)) (weights_of kind (network_of before)) in
      let (rows, long, next, place, put, why) = lists list.0 list.1 in
      letter_of list.0 why
