-- Membership in lists that are joined, turned round or cut. All by recursion over the list, since
-- `In` computes; later files use these facts to compare lists by their members.
use Rattle.std.proofs.Common.{◌≡◌, ℕ, zero, suc, ◌+◌, ◌<◌, ◌≤◌, ◌⊎◌, List, [], ◌∷◌, ◌++◌, length, get_or, take, sym, refl, ◌∙◌, subst, inl, inr, arith}
use mathlib.Core.List.{reverse_aux}
use Rattle.std.proofs.Math.ListN.{length-reverse_aux}
use Rattle.std.proofs.lemmas.Bool.{cases_eq}
use Rattle.forests.specs.Lists.{In, Within, Different}

pub in_left : {A : Type 0} (x : A) (xs ys : List A) → In x xs → In x (xs ++ ys)
in_left x [] ys h = absurd h
in_left x (y ∷ xs) ys (inl e) = inl e
in_left x (y ∷ xs) ys (inr h) = inr (in_left x xs ys h)

pub in_right : {A : Type 0} (x : A) (xs ys : List A) → In x ys → In x (xs ++ ys)
in_right x [] ys h = h
in_right x (y ∷ xs) ys h = inr (in_right x xs ys h)

pub in_either : {A : Type 0} (x : A) (xs ys : List A) → In x (xs ++ ys) → In x xs ⊎ In x ys
in_either x [] ys h = inr h
in_either x (y ∷ xs) ys (inl e) = inl (inl e)
in_either x (y ∷ xs) ys (inr h) = elim (in_either x xs ys h) [ inl a ↦ inl (inr a) | inr b ↦ inr b ]

-- what stands in xs turned round and put before S
pub in_kept : {A : Type 0} (x : A) (xs S : List A) → In x S → In x (reverse_aux xs S)
in_kept x [] S h = h
in_kept x (y ∷ xs) S h = in_kept x xs (y ∷ S) (inr h)

pub in_turned : {A : Type 0} (x : A) (xs S : List A) → In x xs → In x (reverse_aux xs S)
in_turned x [] S h = absurd h
in_turned x (y ∷ xs) S (inl e) = in_kept x xs (y ∷ S) (inl e)
in_turned x (y ∷ xs) S (inr h) = in_turned x xs (y ∷ S) h

pub in_parts : {A : Type 0} (x : A) (xs S : List A) → In x (reverse_aux xs S) → In x xs ⊎ In x S
in_parts x [] S h = inr h
in_parts x (y ∷ xs) S h = elim (in_parts x xs (y ∷ S) h) [ inl a ↦ inl (inr a) | inr (inl e) ↦ inl (inl e) | inr (inr b) ↦ inr b ]

pub in_take : {A : Type 0} (x : A) (n : ℕ) (xs : List A) → In x (take n xs) → In x xs
in_take x zero xs h = absurd h
in_take x (suc n) [] h = absurd h
in_take x (suc n) (y ∷ xs) (inl e) = inl e
in_take x (suc n) (y ∷ xs) (inr h) = inr (in_take x n xs h)

pub in_get_d : {A : Type 0} (xs : List A) (i : ℕ) (d : A) → i < length xs → In (get_or xs i d) xs
in_get_d [] i d h = absurd (omega arith)
in_get_d (x ∷ xs) zero d h = inl refl
in_get_d (x ∷ xs) (suc i) d h = inr (in_get_d xs i d (omega arith))

-- where a member stands
pub place : {A : Type 0} (x : A) (xs : List A) (d : A) → In x xs → (i : ℕ) × (i < length xs) × (get_or xs i d ≡ x)
place x [] d h = absurd h
place x (y ∷ xs) d (inl e) = (0, omega arith, sym e)
place x (y ∷ xs) d (inr h) = let p = place x xs d h in (suc p.0, omega (arith, p.1), p.2)

pub in_moved : {A : Type 0} (x y : A) (xs : List A) → x ≡ y → In x xs → In y xs
in_moved x y xs e h = subst (λ z. In z xs) e h

pub length_push : (S xs : List ℕ) → length (reverse_aux xs S) ≡ length S + length xs
length_push S xs = omega (arith, length-reverse_aux xs S)

pub in_or_not : (x : ℕ) (xs : List ℕ) → In x xs ⊎ (In x xs → ⊥)
in_or_not x [] = inr (λ h. h)
in_or_not x (y ∷ ys) = elim (cases_eq x y) [
  | inl e ↦ inl (inl e)
  | inr ne ↦ elim (in_or_not x ys) [ inl m ↦ inl (inr m) | inr n ↦ inr (λ h. elim h [ inl e ↦ ne e | inr m ↦ n m ]) ]
]

-- a list without one of its members
pub without : {A : Type 0} (x : A) (ys : List A) → In x ys
    → (zs : List A) × (length zs + 1 ≡ length ys) × ((z : A) → In z ys → (z ≡ x) ⊎ In z zs)
without x [] m = absurd m
without x (y ∷ ys) (inl e) = (ys, omega arith, λ z k. elim k [ inl h ↦ inl (h ∙ sym e) | inr h ↦ inr h ])
without x (y ∷ ys) (inr m) =
    let p = without x ys m in (
      y ∷ p.0,
      omega (arith, p.1),
      λ z k. elim k [
        | inl h ↦ inr (inl h)
        | inr h ↦ elim (p.2 z h) [ inl a ↦ inl a | inr b ↦ inr (inr b) ]
      ],
    )

-- different members of a list that is no longer are all of its members
pub same_members : {A : Type 0} (xs ys : List A) → Different xs → Within xs ys → length ys ≤ length xs → Within ys xs
same_members [] [] d h l z m = m
same_members [] (y ∷ ys) d h l z m = absurd (omega arith)
same_members (x ∷ xs) ys d h l z m =
    let p = without x ys (h x (inl refl)) in
    let inner : Within xs p.0 = λ y k. elim (p.2 y (h y (inr k))) [
      | inl e ↦ absurd (d.0 (subst (λ t. In t xs) e k))
      | inr b ↦ b
    ] in
    elim (p.2 z m) [ inl e ↦ inl e | inr b ↦ inr (same_members xs p.0 d.1 inner (omega (arith, p.1)) z b) ]
