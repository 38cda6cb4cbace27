-- Totals on a scale. If amounts are no higher position by position then the total is no higher, and
-- the totals can only be equal if the amounts are equal at every position: a single lower amount would,
-- by the strict law of sums, make the total lower. The order of the amounts does not matter.
use Rattle.std.proofs.Common.{◌≡◌, ℕ, true, false, List, [], ◌∷◌, map, sym, refl, ap, ◌∙◌, subst, ap₂, inl, inr}
use Rattle.std.proofs.lemmas.Bool.{both_ways, cases_Bool, cond_both}
use Rattle.weights.specs.Scales.{Scale, Lawful, sum_of}
use Rattle.cheapest.specs.Completions.{insert, sorted}
use Rattle.cheapest.proofs.Orders.{Along}

module _ (s : Scale) (laws : Lawful s) where
  pub le_refl : (a b : s.Amount) → a ≡ b → s.le a b ≡ true
  le_refl a b e = elim (laws.total a b) [
    | inl h ↦ h
    | inr h ↦ subst (λ z. s.le z b ≡ true) (sym e) (subst (λ z. s.le b z ≡ true) e h)
  ]

  -- what is not at most is above
  pub le_from_not : (a b : s.Amount) → s.le b a ≡ false → s.le a b ≡ true
  le_from_not a b h = elim (laws.total a b) [ inl k ↦ k | inr k ↦ absurd (both_ways (s.le b a) h k) ]

  pub add_le_left : (a b c : s.Amount) → s.le a b ≡ true → s.le (s.add a c) (s.add b c) ≡ true
  add_le_left a b c h = elim (cases_Bool (s.le b a)) [
    | inl k ↦ le_refl (s.add a c) (s.add b c) (ap (λ z. s.add z c) (laws.antisym a b h k))
    | inr k ↦ le_from_not (s.add a c) (s.add b c) (laws.strict a b c k)
  ]

  pub add_le_right : (a b c : s.Amount) → s.le a b ≡ true → s.le (s.add c a) (s.add c b) ≡ true
  add_le_right a b c h = subst (λ z. s.le z (s.add c b) ≡ true) (laws.comm a c)
      (subst (λ z. s.le (s.add a c) z ≡ true) (laws.comm b c) (add_le_left a b c h))

  -- a common part of two sums may be dropped
  pub le_cancel : (a b c : s.Amount) → s.le (s.add a c) (s.add b c) ≡ true → s.le a b ≡ true
  le_cancel a b c h = elim (cases_Bool (s.le a b)) [
    | inl k ↦ k
    | inr k ↦ absurd (both_ways (s.le (s.add a c) (s.add b c)) (laws.strict b a c k) h)
  ]

  pub le_cancel_left : (a b c : s.Amount) → s.le (s.add c a) (s.add c b) ≡ true → s.le a b ≡ true
  le_cancel_left a b c h = le_cancel a b c (subst (λ z. s.le z (s.add b c) ≡ true) (laws.comm c a)
      (subst (λ z. s.le (s.add c a) z ≡ true) (laws.comm c b) h))

  module _ (w : ℕ → s.Amount) where
    pub total_le : (xs ys : List ℕ) → Along (λ x y. s.le (w x) (w y) ≡ true) xs ys → s.le (sum_of s (map w xs)) (sum_of s (map w ys)) ≡ true
    total_le [] [] a = le_refl s.zero s.zero refl
    total_le [] (y ∷ ys) a = absurd a
    total_le (x ∷ xs) [] a = absurd a
    total_le (x ∷ xs) (y ∷ ys) a =
        let tx = sum_of s (map w xs) in
        let ty = sum_of s (map w ys) in
        laws.trans (s.add (w x) tx) (s.add (w y) tx) (s.add (w y) ty)
        (add_le_left (w x) (w y) tx a.0) (add_le_right tx ty (w y) (total_le xs ys a.1))

    -- and no total is reached but by the same amounts
    pub total_same : (xs ys : List ℕ) → Along (λ x y. s.le (w x) (w y) ≡ true) xs ys
        → s.le (sum_of s (map w ys)) (sum_of s (map w xs)) ≡ true → map w ys ≡ map w xs
    total_same [] [] a h = refl
    total_same [] (y ∷ ys) a h = absurd a
    total_same (x ∷ xs) [] a h = absurd a
    total_same (x ∷ xs) (y ∷ ys) a h =
        let tx = sum_of s (map w xs) in
        let ty = sum_of s (map w ys) in
        let less : s.le tx ty ≡ true = total_le xs ys a.1 in
        let same : w y ≡ w x = laws.antisym (w y) (w x)
        (le_cancel (w y) (w x) ty (laws.trans (s.add (w y) ty) (s.add (w x) tx) (s.add (w x) ty) h (add_le_right tx ty (w x) less))) a.0 in
        ap₂ (λ b bs. b ∷ bs) same
        (total_same xs ys a.1 (le_cancel_left ty tx (w x) (subst (λ z. s.le (s.add z ty) (s.add (w x) tx) ≡ true) same h)))

    -- amounts between equal amounts are equal to them
    pub amounts_between : (xs ys zs : List ℕ) → Along (λ x y. s.le (w x) (w y) ≡ true) xs ys → Along (λ x y. s.le (w x) (w y) ≡ true) ys zs
        → map w zs ≡ map w xs → map w ys ≡ map w xs
    amounts_between xs ys zs a b e = total_same xs ys a (subst (λ t. s.le (sum_of s (map w ys)) (sum_of s t) ≡ true) e (total_le ys zs b))

    pub total_insert : (key : ℕ → ℕ) (x : ℕ) (ys : List ℕ) → sum_of s (map w (insert key x ys)) ≡ s.add (w x) (sum_of s (map w ys))
    total_insert key x [] = refl
    total_insert key x (y ∷ ys) =
        let rest = sum_of s (map w ys) in
        cond_both _ (x ∷ (y ∷ ys)) (y ∷ insert key x ys) (λ zs. sum_of s (map w zs) ≡ s.add (w x) (s.add (w y) rest))
        (λ _. refl)
        (λ _. ap (s.add (w y)) (total_insert key x ys) ∙ sym (laws.assoc (w y) (w x) rest)
        ∙ ap (λ z. s.add z rest) (laws.comm (w y) (w x)) ∙ laws.assoc (w x) (w y) rest)

    pub total_sorted : (key : ℕ → ℕ) (xs : List ℕ) → sum_of s (map w (sorted key xs)) ≡ sum_of s (map w xs)
    total_sorted key [] = refl
    total_sorted key (x ∷ xs) = total_insert key x (sorted key xs) ∙ ap (s.add (w x)) (total_sorted key xs)
