-- Lists that are cut in two: where a longer list may be cut, and that equal fronts leave equal rests.
use Rattle.std.proofs.Common.{◌≡◌, ◌<◌, ◌⊎◌, List, [], ◌∷◌, ◌++◌, length, sym, refl, subst, inl, inr, arith}
use Rattle.forests.specs.Lists.{In, Different}
use Rattle.forests.proofs.Members.{in_right}

pub not_empty : {A : Type 0} (x : A) (xs : List A) → ◌≡◌ {A = List A} [] (x ∷ xs) → ⊥
not_empty x xs e = cc

pub not_cut : {A : Type 0} (xs : List A) (y : A) (ys : List A) → [] ≡ xs ++ (y ∷ ys) → ⊥
not_cut [] y ys e = not_empty y ys e
not_cut (x ∷ xs) y ys e = not_empty x (xs ++ (y ∷ ys)) e

pub front_none : {A : Type 0} (front rest : List A) → [] ≡ front ++ rest → front ≡ []
front_none [] rest e = refl
front_none (x ∷ front) rest e = absurd (not_empty x (front ++ rest) e)

-- a front of a list with one more at its end is a front of the list, or the whole
pub front_push : {A : Type 0} (xs front rest : List A) (y : A) → xs ++ (y ∷ []) ≡ front ++ rest
    → ((rest' : List A) × (xs ≡ front ++ rest')) ⊎ (front ≡ xs ++ (y ∷ []))
front_push xs [] rest y e = inl (xs, refl)
front_push [] (f ∷ front) rest y e =
    let t : [] ≡ front ++ rest = cc in
    let n = front_none front rest t in
    inr (cc)
front_push (x ∷ xs) (f ∷ front) rest y e =
    let h : x ≡ f = cc in
    let t : xs ++ (y ∷ []) ≡ front ++ rest = cc in
    elim (front_push xs front rest y t) [ inl p ↦ inl (p.0, let q = p.1 in cc) | inr p ↦ inr (cc) ]

-- a member of a list with one more at its end is a member of the list, or the one more
pub cut_push : {A : Type 0} (xs front rest : List A) (x y : A) → xs ++ (y ∷ []) ≡ front ++ (x ∷ rest)
    → ((rest' : List A) × (xs ≡ front ++ (x ∷ rest'))) ⊎ ((front ≡ xs) × (x ≡ y))
cut_push [] [] rest x y e = inr (refl, cc)
cut_push [] (f ∷ front) rest x y e = let t : [] ≡ front ++ (x ∷ rest) = cc in absurd (not_cut front x rest t)
cut_push (z ∷ xs) [] rest x y e = let h : z ≡ x = cc in inl (xs, cc)
cut_push (z ∷ xs) (f ∷ front) rest x y e =
    let h : z ≡ f = cc in
    let t : xs ++ (y ∷ []) ≡ front ++ (x ∷ rest) = cc in
    elim (cut_push xs front rest x y t) [ inl p ↦ inl (p.0, let q = p.1 in cc) | inr p ↦ inr (let q = p.0 in cc, p.1) ]

-- what stands once has one rest behind it
pub one_rest : {A : Type 0} (x : A) (front rest front' rest' : List A) → Different (front ++ (x ∷ rest)) → front ++ (x ∷ rest) ≡ front' ++ (x ∷ rest') → rest ≡ rest'
one_rest x [] rest [] rest' d e = cc
one_rest x [] rest (f ∷ front') rest' d e =
    let t : rest ≡ front' ++ (x ∷ rest') = cc in
    absurd (d.0 (subst (λ xs. In x xs) (sym t) (in_right x front' (x ∷ rest') (inl refl))))
one_rest x (f ∷ front) rest [] rest' d e =
    let h : x ≡ f = cc in
    absurd (d.0 (subst (λ z. In z (front ++ (x ∷ rest))) h (in_right x front (x ∷ rest) (inl refl))))
one_rest x (f ∷ front) rest (f' ∷ front') rest' d e =
    let t : front ++ (x ∷ rest) ≡ front' ++ (x ∷ rest') = cc in
    one_rest x front rest front' rest' d.1 t

pub same_front : {A : Type 0} (xs ys rest rest' : List A) → xs ++ rest ≡ ys ++ rest' → length xs ≡ length ys → xs ≡ ys
same_front [] [] rest rest' e l = refl
same_front [] (y ∷ ys) rest rest' e l = absurd (omega arith)
same_front (x ∷ xs) [] rest rest' e l = absurd (omega arith)
same_front (x ∷ xs) (y ∷ ys) rest rest' e l =
    let h : x ≡ y = cc in
    let t : xs ++ rest ≡ ys ++ rest' = cc in
    let k = same_front xs ys rest rest' t (omega arith) in
    cc

pub longer_front : {A : Type 0} (xs ys rest rest' : List A) → xs ++ rest ≡ ys ++ rest' → length xs < length ys
    → (y : A) × (more : List A) × (ys ≡ xs ++ (y ∷ more))
longer_front [] [] rest rest' e l = absurd (omega arith)
longer_front [] (y ∷ ys) rest rest' e l = (y, ys, refl)
longer_front (x ∷ xs) [] rest rest' e l = absurd (omega arith)
longer_front (x ∷ xs) (y ∷ ys) rest rest' e l =
    let h : x ≡ y = cc in
    let t : xs ++ rest ≡ ys ++ rest' = cc in
    let p = longer_front xs ys rest rest' t (omega arith) in
    (p.0, p.1, let q = p.2 in cc)
