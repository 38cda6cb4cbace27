-- How many networks there are, and that a network is as before once its last link is taken off.
use Rattle.std.proofs.Common.{◌≡◌, ℕ, zero, suc, ◌+◌, ◌-◌, ◌*◌, ◌^◌, ◌<◌, ◌≤◌, min, List, [], ◌∷◌, ◌++◌, length, take, refl, ◌∙◌, ap, arith}
use Rattle.std.proofs.Math.Nat.{add-mul}
use Rattle.std.proofs.Math.Seq.{take-append_seam}
use Rattle.std.proofs.lemmas.List.{length-append}
use Rattle.std.proofs.lemmas.Nat.{mul-le}
use Rattle.exhaustive.specs.Choices.{choices_of, lists_of, networks_to}
use Rattle.exhaustive.specs.declared.cases.Drawn.{Drawn}

-- what was pushed is popped
pub popped : (before pushed after : List Drawn) (link : Drawn) → pushed ≡ before ++ link ∷ []
    → after ≡ take (length pushed - 1) pushed → after ≡ before
popped before pushed after link e f =
    let n : length pushed - 1 ≡ length before = omega (arith, ap length e, length-append before (link ∷ [])) in
    f ∙ ap (λ m. take m pushed) n ∙ ap (take (length before)) e ∙ take-append_seam before (link ∷ [])

-- fewer choices make no more lists
fewer : (choices most : ℕ) → choices ≤ 18 → lists_of choices most ≤ lists_of 18 most
fewer choices zero h = omega arith
fewer choices (suc most) h =
    let step : choices * lists_of choices most ≤ 18 * lists_of 18 most =
    mul-le choices (lists_of choices most) 18 (lists_of 18 most) h (fewer choices most h) in
    omega arith

most_three : (most : ℕ) → most ≤ 3 → lists_of 18 most ≤ 6175
most_three zero h = omega arith
most_three (suc zero) h = omega arith
most_three (suc (suc zero)) h = omega arith
most_three (suc (suc (suc zero))) h = omega arith
most_three (suc (suc (suc (suc n)))) h = absurd (omega arith)

few_lists : (choices most : ℕ) → choices ≤ 18 → most ≤ 3 → lists_of choices most ≤ 6175
few_lists choices most h k =
    let a : lists_of choices most ≤ lists_of 18 most = fewer choices most h in
    let b : lists_of 18 most ≤ 6175 = most_three most k in
    omega arith

-- the lists that begin with one choice more
pub one_choice_more : (done choices most : ℕ) → done < choices → choices ≤ 18 → most ≤ 3
    → min (1 + done * lists_of choices most + lists_of choices most) (2 ^ 32 - 1) ≡ 1 + (done + 1) * lists_of choices most
one_choice_more done choices most d h k =
    let few : lists_of choices most ≤ 6175 = few_lists choices most h k in
    let below : done * lists_of choices most ≤ 18 * 6175 =
    mul-le done (lists_of choices most) 18 6175 (omega arith) few in
    omega (arith, add-mul done 1 (lists_of choices most))

-- the networks of one site more
pub one_site_more : (sites : ℕ) → 1 ≤ sites → sites ≤ 4
    → min (networks_to (sites - 1) + lists_of (length (choices_of sites)) 4) (2 ^ 32 - 1) ≡ networks_to (sites + 1 - 1)
one_site_more zero h k = absurd (omega arith)
one_site_more (suc zero) h k = refl
one_site_more (suc (suc zero)) h k = refl
one_site_more (suc (suc (suc zero))) h k = refl
one_site_more (suc (suc (suc (suc zero)))) h k = refl
one_site_more (suc (suc (suc (suc (suc n))))) h k = absurd (omega arith)

-- all of them
pub all_networks : (sites : ℕ) → sites ≡ 5 → networks_to (sites - 1) ≡ 118654
all_networks sites e = rw e
