-- Lists of rules.
use Rattle.std.proofs.Common.{◌≡◌, Bool, true, false, cond, ◌⊎◌, Some, None, Option, refl, inl, inr}
use Rattle.networks.specs.declared.refusals.Report.{Report}

-- where no rule applies, neither the first does nor one of the others
pub passed : (t : Bool) (r : Report) (rest : Option Report) → cond t (Some r) rest ≡ None → (t ≡ false) × (rest ≡ None)
passed true r rest e = cc
passed false r rest e = (refl, e)

-- what decides is the first rule, or another where the first does not apply
pub decided : (t : Bool) (a r : Report) (rest : Option Report) → cond t (Some a) rest ≡ Some r → ((t ≡ true) × (a ≡ r)) ⊎ ((t ≡ false) × (rest ≡ Some r))
decided true a r rest e = inl (refl, cc)
decided false a r rest e = inr (refl, e)

pub never : {A : Type 0} (r : A) → ◌≡◌ {A = Option A} None (Some r) → ⊥
never r e = cc
