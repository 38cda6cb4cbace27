-- Which links the choices are.
use Rattle.std.proofs.Common.{ℕ, zero, suc, ◌<◌, ◌≤◌, inl, inr, [], ◌∷◌, refl, subst, arith}
use Rattle.std.proofs.Math.Nat.{eq-or-lt_of_le}
use Rattle.std.specs.List.{All, Contains}
use Rattle.std.proofs.lemmas.List.Elements.{All-append, All-cons, All-nil, Contains-append_left, Contains-append_right}
use Rattle.exhaustive.specs.Choices.{choice, between, back, choices_of, IsChoice}

-- between two sites there is a choice of 0, of 1 and of 2 metres
between_every : (from to metres : ℕ) → metres < 3 → Contains (between from to) (choice from to metres)
between_every from to zero h = (0, omega arith, refl)
between_every from to (suc zero) h = (1, omega arith, refl)
between_every from to (suc (suc zero)) h = (2, omega arith, refl)
between_every from to (suc (suc (suc n))) h = absurd (omega arith)

-- so there is between each of the first so many sites and one more
back_every : (many to from metres : ℕ) → from < many → metres < 3 → Contains (back many to) (choice from to metres)
back_every zero to from metres h m = absurd (omega arith)
back_every (suc many) to from metres h m =
    elim (eq-or-lt_of_le {n = from} {m = many} (omega arith)) [
      | inl e ↦ Contains-append_right (back many to) (between many to) (choice from to metres)
          (subst (λ site. Contains (between site to) (choice from to metres)) e (between_every from to metres m))
      | inr l ↦ Contains-append_left (back many to) (between many to) (choice from to metres) (back_every many to from metres l m)
    ]

-- and between any two
pub choices_every : (sites from to metres : ℕ) → from < to → to < sites → metres < 3
    → Contains (choices_of sites) (choice from to metres)
choices_every zero from to metres h k m = absurd (omega arith)
choices_every (suc last) from to metres h k m =
    elim (eq-or-lt_of_le {n = to} {m = last} (omega arith)) [
      | inl e ↦ Contains-append_right (choices_of last) (back last last) (choice from to metres)
          (subst (λ site. Contains (back site site) (choice from to metres)) e (back_every to to from metres h m))
      | inr l ↦ Contains-append_left (choices_of last) (back last last) (choice from to metres)
          (choices_every last from to metres h l m)
    ]

one_such : (sites from to metres : ℕ) → from < to → to < sites → metres < 3 → IsChoice sites (choice from to metres)
one_such sites from to metres h k m = (h, k, m)

between_such : (sites from to : ℕ) → from < to → to < sites → All (IsChoice sites) (between from to)
between_such sites from to h k =
    All-cons (IsChoice sites) (choice from to 0) (choice from to 1 ∷ choice from to 2 ∷ [])
    (one_such sites from to 0 h k (omega arith))
    (All-cons (IsChoice sites) (choice from to 1) (choice from to 2 ∷ []) (one_such sites from to 1 h k (omega arith))
    (All-cons (IsChoice sites) (choice from to 2) [] (one_such sites from to 2 h k (omega arith))
    (All-nil (IsChoice sites))))

back_such : (sites many to : ℕ) → many ≤ to → to < sites → All (IsChoice sites) (back many to)
back_such sites zero to h k = All-nil (IsChoice sites)
back_such sites (suc many) to h k =
    All-append (IsChoice sites) (back many to) (between many to) (back_such sites many to (omega arith) k)
    (between_such sites many to (omega arith) k)

-- there is no other choice
pub choices_such : (sites first : ℕ) → first ≤ sites → All (IsChoice sites) (choices_of first)
choices_such sites zero h = All-nil (IsChoice sites)
choices_such sites (suc last) h =
    All-append (IsChoice sites) (choices_of last) (back last last) (choices_such sites last (omega arith))
    (back_such sites last last (omega arith) (omega arith))
