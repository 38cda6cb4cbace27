-- What no call alters of a receiver, over no call and over one call after another.
use Rattle.std.proofs.Common.{◌≡◌, ℕ, ◌-◌, List, length, drop, refl, ap, ◌∙◌, arith}
use Rattle.std.specs.Borrow.{GName}
use Rattle.receivers.specs.Rules.{Rule, EndOf, Serves}
use Rattle.receivers.proofs.Fronts.{end_end}

-- a list is the end of itself
pub end_self : (xs : List ℕ) → EndOf xs xs
end_self xs =
    let none : 0 ≡ length xs - length xs = omega arith in
    ap (λ (n : ℕ). drop n xs) none

module _ {R : Type 0} {rule : R → Rule} {spare : R → List ℕ} {lender : R → List GName} where
  pub serves_same : (r : R) → Serves rule spare lender r r
  serves_same r = record { rule = refl; spare = end_self (spare r); lender = refl }

  pub serves_then : {first second third : R} → Serves rule spare lender first second → Serves rule spare lender second third → Serves rule spare lender first third
  serves_then one two = record { rule = two.rule ∙ one.rule; spare = end_end _ _ _ one.spare two.spare; lender = two.lender ∙ one.lender }
