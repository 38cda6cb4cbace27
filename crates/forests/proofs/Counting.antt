-- Counting the numbers below n that pass a test. A test that passes wherever another does counts no
-- less, and more if it passes somewhere else too; one that differs at a single number counts one more.
use Rattle.std.proofs.Common.{◌≡◌, ℕ, zero, suc, ◌+◌, ◌<◌, ◌≤◌, Bool, true, false, cond, refl, ap, subst, inl, inr, arith}
use Rattle.std.proofs.lemmas.Bool.{cases_Bool, cases_eq, cases_order, cond-true, cond-false, both_ways}
use Rattle.forests.specs.Counts.{count}

pub count_yes : (test : ℕ → Bool) (n : ℕ) → test n ≡ true → count test (suc n) ≡ count test n + 1
count_yes test n h = omega (arith, cond-true {A = ℕ} (test n) 1 0 h)

pub count_no : (test : ℕ → Bool) (n : ℕ) → test n ≡ false → count test (suc n) ≡ count test n
count_no test n h = omega (arith, cond-false {A = ℕ} (test n) 1 0 h)

pub count_all : (test : ℕ → Bool) (n : ℕ) → ((u : ℕ) → u < n → test u ≡ true) → count test n ≡ n
count_all test zero h = refl
count_all test (suc n) h = omega (arith, count_yes test n (h n (omega arith)), count_all test n (λ u l. h u (omega arith)))

pub count_none : (test : ℕ → Bool) (n : ℕ) → ((u : ℕ) → u < n → test u ≡ false) → count test n ≡ 0
count_none test zero h = refl
count_none test (suc n) h = omega (arith, count_no test n (h n (omega arith)), count_none test n (λ u l. h u (omega arith)))

pub count_same : (test test' : ℕ → Bool) (n : ℕ) → ((u : ℕ) → u < n → test u ≡ test' u) → count test n ≡ count test' n
count_same test test' zero h = refl
count_same test test' (suc n) h =
    omega (arith, count_same test test' n (λ u l. h u (omega arith)), ap (λ b. cond b (suc zero) zero) (h n (omega arith)))

pub count_le : (test test' : ℕ → Bool) (n : ℕ) → ((u : ℕ) → u < n → test u ≡ true → test' u ≡ true) → count test n ≤ count test' n
count_le test test' zero h = omega arith
count_le test test' (suc n) h =
    let rest = count_le test test' n (λ u l. h u (omega arith)) in
    elim (cases_Bool (test n)) [
      | inl e ↦ omega (arith, count_yes test n e, count_yes test' n (h n (omega arith) e))
      | inr e ↦ omega (arith, count_no test n e)
    ]

-- p passes the second test and not the first
pub count_lt : (test test' : ℕ → Bool) (n p : ℕ) → ((u : ℕ) → u < n → test u ≡ true → test' u ≡ true)
    → p < n → test p ≡ false → test' p ≡ true → count test n < count test' n
count_lt test test' zero p h l a b = absurd (omega arith)
count_lt test test' (suc n) p h l a b =
    elim (cases_eq p n) [
      | inl e ↦ omega (
        arith,
        count_le test test' n (λ u k. h u (omega arith)),
        count_no test n (subst (λ z. test z ≡ false) e a),
        count_yes test' n (subst (λ z. test' z ≡ true) e b),
      )
      | inr ne ↦
          let rest = count_lt test test' n p (λ u k. h u (omega arith)) (omega arith) a b in
          elim (cases_Bool (test n)) [
            | inl e ↦ omega (arith, count_yes test n e, count_yes test' n (h n (omega arith) e))
            | inr e ↦ omega (arith, count_no test n e)
          ]
    ]

-- the tests differ at p alone
pub count_one_less : (test test' : ℕ → Bool) (n p : ℕ) → ((u : ℕ) → u < n → (u ≡ p → ⊥) → test u ≡ test' u)
    → p < n → test p ≡ true → test' p ≡ false → count test n ≡ count test' n + 1
count_one_less test test' zero p h l a b = absurd (omega arith)
count_one_less test test' (suc n) p h l a b =
    elim (cases_eq p n) [
      | inl e ↦ omega (
        arith,
        count_same test test' n (λ u k. h u (omega arith) (omega arith)),
        count_yes test n (subst (λ z. test z ≡ true) e a),
        count_no test' n (subst (λ z. test' z ≡ false) e b),
      )
      | inr ne ↦ omega (
        arith,
        count_one_less test test' n p (λ u k. h u (omega arith)) (omega arith) a b,
        ap (λ b. cond b (suc zero) zero) (h n (omega arith) (omega arith)),
      )
    ]

-- if one number at most passes, any two that pass are the same
pub count_unique : (test : ℕ → Bool) (n a b : ℕ) → count test n ≤ 1 → a < n → b < n → test a ≡ true → test b ≡ true → a ≡ b
count_unique test n a b h la lb ta tb = elim (cases_eq a b) [
  | inl e ↦ e
  | inr ne ↦ absurd (two ne)
]
  where
    some_below : (test : ℕ → Bool) (n a : ℕ) → a < n → test a ≡ true → 0 < count test n
    some_below test n a l t = omega (arith, count_lt (λ _. false) test n a (λ u k f. absurd (both_ways false refl f)) l refl t)

    two_below : (test : ℕ → Bool) (n a b : ℕ) → a < b → b < n → test a ≡ true → test b ≡ true → 1 < count test n
    two_below test zero a b l k ta tb = absurd (omega arith)
    two_below test (suc n) a b l k ta tb = elim (cases_eq b n) [
      | inl e ↦ omega (arith, count_yes test n (subst (λ z. test z ≡ true) e tb), some_below test n a (omega arith) ta)
      | inr ne ↦ omega (arith, two_below test n a b l (omega arith) ta tb)
    ]

    two : (a ≡ b → ⊥) → ⊥
    two ne = elim (cases_order a b) [
      | inl e ↦ ne e
      | inr (inl l) ↦ omega (arith, two_below test n a b l lb ta tb)
      | inr (inr l) ↦ omega (arith, two_below test n b a l la tb ta)
    ]
