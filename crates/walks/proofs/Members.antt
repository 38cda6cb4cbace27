-- The next members of a list from a place on. Each row stands once, so a place has one rest of the list
-- behind it, and all that comes next is a front of that rest.
use Rattle.std.proofs.Common.{◌≡◌, ℕ, ◌<◌, eqb, List, [], ◌∷◌, ◌++◌, length, Some, None, Option, Decides, sym, refl, ap, ◌∙◌, subst, append_assoc}
use Rattle.std.proofs.lemmas.Bool.{false≢true}
use Rattle.std.proofs.lemmas.Bool.Decides.{Decides-eqb, Decides-or}
use Rattle.std.specs.List.{list_any}
use Rattle.forests.specs.Lists.{In, Different}
use Rattle.cheapest.proofs.Listings.{split_at}
use Rattle.walks.specs.Places.{NextMembers, Comes, IsLast, last_of}
use Rattle.walks.proofs.Cuts.{not_empty, not_cut, one_rest, same_front, longer_front}

-- the place has this rest of the list behind it
abbrev pub Behind : List (List ℕ) → Option (List ℕ) → List (List ℕ) → Type 0
Behind L None rest = L ≡ rest
Behind L (Some here) rest = (before : List (List ℕ)) × (L ≡ before ++ (here ∷ rest))

pub last_append : (here : Option (List ℕ)) (xs ys : List (List ℕ)) → last_of here (xs ++ ys) ≡ last_of (last_of here xs) ys
last_append here [] ys = refl
last_append here (x ∷ xs) ys = last_append (Some x) xs ys

module _ (L : List (List ℕ)) where
  pub behind : (here : Option (List ℕ)) (rows : List (List ℕ)) → NextMembers L here rows → (after : List (List ℕ)) × Behind L here (rows ++ after)
  behind None rows n = n
  behind (Some here) rows n = (n.1, (n.0, n.2))

  pub in_front : (here : Option (List ℕ)) (rows after : List (List ℕ)) → Behind L here (rows ++ after) → NextMembers L here rows
  in_front None rows after b = (after, b)
  in_front (Some here) rows after b = (b.0, after, b.1)

  behind_one : (here : Option (List ℕ)) (row : List ℕ) (rest : List (List ℕ)) → Behind L here (row ∷ rest) → Behind L (Some row) rest
  behind_one None row rest b = ([], b)
  behind_one (Some here) row rest b = (b.0 ++ (here ∷ []), b.1 ∙ sym (append_assoc b.0 (here ∷ []) (row ∷ rest)))

  pub behind_all : (here : Option (List ℕ)) (rows rest : List (List ℕ)) → Behind L here (rows ++ rest) → Behind L (last_of here rows) rest
  behind_all here [] rest b = b
  behind_all here (row ∷ rows) rest b = behind_all (Some row) rows rest (behind_one here row (rows ++ rest) b)

  -- what comes after the first of the rows
  pub next_rest : (here : Option (List ℕ)) (xs ys : List (List ℕ)) → NextMembers L here (xs ++ ys) → NextMembers L (last_of here xs) ys
  next_rest here xs ys n =
      let b = behind here (xs ++ ys) n in
      in_front (last_of here xs) ys b.0 (behind_all here xs (ys ++ b.0) (subst (λ zs. Behind L here zs) (append_assoc xs ys b.0) b.1))

  pub next_front : (here : Option (List ℕ)) (xs ys : List (List ℕ)) → NextMembers L here (xs ++ ys) → NextMembers L here xs
  next_front here xs ys n =
      let b = behind here (xs ++ ys) n in
      in_front here xs (ys ++ b.0) (subst (λ zs. Behind L here zs) (append_assoc xs ys b.0) b.1)

  -- from a member nothing is given yet
  pub next_none : (row : List ℕ) → In row L → NextMembers L (Some row) []
  next_none row m = split_at row L m

  pub none_of_empty : (here : Option (List ℕ)) (row : List ℕ) (rows : List (List ℕ)) → L ≡ [] → NextMembers L here (row ∷ rows) → ⊥
  none_of_empty None row rows e n = not_empty row (rows ++ n.0) (sym e ∙ n.1)
  none_of_empty (Some here) row rows e n = not_cut n.0 here ((row ∷ rows) ++ n.1) (sym e ∙ n.2)

  module _ (once : Different L) where
    pub one_behind : (here : Option (List ℕ)) (rest rest' : List (List ℕ)) → Behind L here rest → Behind L here rest' → rest ≡ rest'
    one_behind None rest rest' b b' = sym b ∙ b'
    one_behind (Some here) rest rest' b b' =
        one_rest here b.0 rest b'.0 rest' (subst (λ xs. Different xs) b.1 once) (sym b.1 ∙ b'.1)

    -- rows, and the rows that come after the last of them
    pub next_more : (here : Option (List ℕ)) (xs ys : List (List ℕ)) → NextMembers L here xs → NextMembers L (last_of here xs) ys → NextMembers L here (xs ++ ys)
    next_more here xs ys n n' =
        let b = behind here xs n in
        let b' = behind (last_of here xs) ys n' in
        let e = one_behind (last_of here xs) b.0 (ys ++ b'.0) (behind_all here xs b.0 b.1) b'.1 in
        in_front here (xs ++ ys) b'.0 (subst (λ zs. Behind L here zs) (ap (λ zs. xs ++ zs) e ∙ sym (append_assoc xs ys b'.0)) b.1)

    both_fronts : (here : Option (List ℕ)) (xs ys : List (List ℕ)) → NextMembers L here xs → NextMembers L here ys
        → (rest : List (List ℕ)) × (rest' : List (List ℕ)) × (xs ++ rest ≡ ys ++ rest')
    both_fronts here xs ys n n' =
        let b = behind here xs n in
        let b' = behind here ys n' in
        (b.0, b'.0, one_behind here (xs ++ b.0) (ys ++ b'.0) b.1 b'.1)

    pub next_same : (here : Option (List ℕ)) (xs ys : List (List ℕ)) → NextMembers L here xs → NextMembers L here ys → length xs ≡ length ys → xs ≡ ys
    next_same here xs ys n n' l = let p = both_fronts here xs ys n n' in same_front xs ys p.0 p.1 p.2 l

    -- of two runs of next members the longer goes on where the shorter ends
    pub next_longer : (here : Option (List ℕ)) (xs ys : List (List ℕ)) → NextMembers L here xs → NextMembers L here ys → length xs < length ys
        → (row : List ℕ) × (more : List (List ℕ)) × (ys ≡ xs ++ (row ∷ more))
    next_longer here xs ys n n' l = let p = both_fronts here xs ys n n' in longer_front xs ys p.0 p.1 p.2 l

    pub comes_same : (here : Option (List ℕ)) (row row' : List ℕ) → Comes L here row → Comes L here row' → row ≡ row'
    comes_same here row row' n n' = let e = next_same here (row ∷ []) (row' ∷ []) n n' refl in cc

    pub not_last : (here : Option (List ℕ)) (row : List ℕ) (rows : List (List ℕ)) → NextMembers L here (row ∷ rows) → IsLast L here → ⊥
    not_last None row rows n l = l
    not_last (Some here) row rows n l = not_empty row (rows ++ n.1) (one_behind (Some here) [] (row ∷ (rows ++ n.1)) l (n.0, n.2))

-- a search through a list finds what stands in it
pub decides_in : (x : ℕ) (xs : List ℕ) → Decides (list_any (λ y. eqb y x) xs) (In x xs)
decides_in x [] = ((λ e. absurd (false≢true e)), (λ h. absurd h))
decides_in x (y ∷ ys) =
    let d = Decides-eqb y x in
    let turned : Decides (eqb y x) (x ≡ y) = ((λ e. sym (d.0 e)), (λ e. d.1 (sym e))) in
    Decides-or _ _ turned (decides_in x ys)
