-- What a plan answers about its cheapest trees holds of the graph and the weights that it stands for:
-- amounts that compare alike make the same trees cheapest.
use Rattle.std.proofs.Common.{◌≡◌, ℕ, Bool, ◌↔◌, List, [], ◌∷◌, sym, refl, ap, subst, arith}
use Rattle.weights.specs.Amounts.{numbers}
use Rattle.weights.specs.Scales.{Scale, Lawful}
use Rattle.forests.specs.Graphs.{Graph, Fits}
use Rattle.cheapest.specs.Classes.{InSome, InEvery}
use Rattle.cheapest.specs.Plans.{graph_of, mark_of}
use Rattle.cheapest.specs.Ranks.{Alike, rank}
use Rattle.cheapest.specs.Trees.{Cheapest}
use Rattle.cheapest.specs.declared.plan.Plan.{Plan}
use Rattle.cheapest.proofs.Listed.{plan_fits}
use Rattle.cheapest.proofs.Numbers.{numbers_lawful}
use Rattle.cheapest.proofs.Ranks.{rank_alike}
use Rattle.cheapest.proofs.SameRows.{same_rows, earlier_alike}
use Rattle.networks.specs.Classes.{HasClass, Counted, letter_of}
use Rattle.networks.specs.Trials.{without, FirstRow, FirstWritten}
use Rattle.networks.proofs.Counted.{counted_alike}
use Rattle.networks.specs.declared.classes.Class.{Class}
use Rattle.networks.specs.declared.classes.Class.TheVariants.{Never, Always, Sometimes}

module _ (g : Graph) (s s' : Scale) (w : ℕ → s.Amount) (w' : ℕ → s'.Amount) (to : (r : List ℕ) → Cheapest g s w r → Cheapest g s' w' r) where
  some_along : (F : List ℕ) → InSome g s w F → InSome g s' w' F
  some_along F i = (i.0, to i.0 i.1, i.2)

  every_along : (e : ℕ) → InEvery g s' w' e → InEvery g s w e
  every_along e h r c = h r (to r c)

class_alike : (g : Graph) (s s' : Scale) (w : ℕ → s.Amount) (w' : ℕ → s'.Amount) → ((r : List ℕ) → Cheapest g s w r ↔ Cheapest g s' w' r)
    → (e : ℕ) (c : Class) → HasClass g s w e c → HasClass g s' w' e c
class_alike g s s' w w' same e =
    let to = λ (r : List ℕ). (same r).0 in
    let back = λ (r : List ℕ). (same r).1 in
    λ c. elim c as (λ (d : Class). HasClass g s w e d → HasClass g s' w' e d) [
      | Never ↦ λ h i. h (some_along g s' s w' w back (e ∷ []) i)
      | Always ↦ λ h. (some_along g s s' w w' to (e ∷ []) h.0, every_along g s' s w' w back e h.1)
      | Sometimes ↦ λ h. (some_along g s s' w w' to (e ∷ []) h.0, (λ i. h.1 (every_along g s s' w w' to e i)))
    ]

-- a link has one class
pub one_class : (g : Graph) (s : Scale) (w : ℕ → s.Amount) (e : ℕ) (c d : Class) → HasClass g s w e c → HasClass g s w e d → c ≡ d
one_class g s w e Never Never h k = refl
one_class g s w e Never Always h k = absurd (h k.0)
one_class g s w e Never Sometimes h k = absurd (h k.0)
one_class g s w e Always Never h k = absurd (k h.0)
one_class g s w e Always Always h k = refl
one_class g s w e Always Sometimes h k = absurd (k.1 h.1)
one_class g s w e Sometimes Never h k = absurd (k h.0)
one_class g s w e Sometimes Always h k = absurd (h.1 k.1)
one_class g s w e Sometimes Sometimes h k = refl

-- no two classes have one letter
pub one_letter : (c d : Class) → letter_of c ≡ letter_of d → c ≡ d
one_letter Never Never e = refl
one_letter Never Always e = absurd (omega arith)
one_letter Never Sometimes e = absurd (omega arith)
one_letter Always Never e = absurd (omega arith)
one_letter Always Always e = refl
one_letter Always Sometimes e = absurd (omega arith)
one_letter Sometimes Never e = absurd (omega arith)
one_letter Sometimes Always e = absurd (omega arith)
one_letter Sometimes Sometimes e = refl

-- the first row is the same under amounts that compare alike
first_alike : (g : Graph) (s s' : Scale) (w : ℕ → s.Amount) (w' : ℕ → s'.Amount) → Alike s s' w w' g.links → ((r : List ℕ) → Cheapest g s w r ↔ Cheapest g s' w' r)
    → (r : List ℕ) → FirstRow g s w r → FirstRow g s' w' r
first_alike g s s' w w' alike same r f = record {
  member = (same r).0 f.member;
  none_before = λ r' c earlier. f.none_before r' ((same r').1 c)
      (earlier_alike (rank g s' w') (rank g s w) g.links (λ e l. sym (rank_alike s s' w w' g.links e alike l)) r' r
      (λ e m. (c.row.tree.allowed e m).0) (λ e m. (f.member.row.tree.allowed e m).0) earlier);
}

-- The graph g and the amounts w are those that the plan p stands for.
module _ (p : Plan) (g : Graph) (is : graph_of p ≡ g) (s : Scale) (laws : Lawful s) (w : ℕ → s.Amount) (alike : Alike numbers s (mark_of p) w g.links) where
  pub fits : Fits g
  fits = subst Fits is (plan_fits p)

  pub same_cheapest : (r : List ℕ) → Cheapest g numbers (mark_of p) r ↔ Cheapest g s w r
  same_cheapest = (same_rows numbers s numbers_lawful laws g fits (mark_of p) w alike).0

  pub class_asked : (e : ℕ) (c : Class) → HasClass (graph_of p) numbers (mark_of p) e c → HasClass g s w e c
  class_asked e c h = class_alike g numbers s (mark_of p) w same_cheapest e c (subst (λ (g' : Graph). HasClass g' numbers (mark_of p) e c) is h)

  pub class_answered : (e : ℕ) (c : Class) → HasClass g s w e c → HasClass (graph_of p) numbers (mark_of p) e c
  class_answered e c h =
      subst (λ (g' : Graph). HasClass g' numbers (mark_of p) e c) (sym is)
      (class_alike g s numbers w (mark_of p) (λ r. ((same_cheapest r).1, (same_cheapest r).0)) e c h)

  pub count_asked : (c : Class) (k : ℕ) → Counted (λ e. HasClass (graph_of p) numbers (mark_of p) e c) p.count k → Counted (λ e. HasClass g s w e c) g.links k
  count_asked c k h =
      subst (λ (m : ℕ). Counted (λ e. HasClass g s w e c) m k) (ap (λ (g' : Graph). g'.links) is)
      (counted_alike (λ e. HasClass (graph_of p) numbers (mark_of p) e c) (λ e. HasClass g s w e c) p.count k (λ e. (class_asked e c, class_answered e c)) h)

  -- the first row with one link closed
  pub first_asked : (link : ℕ) (r : Bool) (before after : List ℕ) → FirstWritten (without (graph_of p) link) numbers (mark_of p) r before after → FirstWritten (without g link) s w r before after
  first_asked link r before after f =
      let f' : FirstWritten (without g link) numbers (mark_of p) r before after = subst (λ (h : Graph). FirstWritten (without h link) numbers (mark_of p) r before after) is f in
      let fits' : Fits (without g link) = record { from_fits = fits.from_fits; to_fits = fits.to_fits } in
      let same = (same_rows numbers s numbers_lawful laws (without g link) fits' (mark_of p) w alike).0 in
      record {
        writes = λ e.
            let (row, first, written) = f'.writes e in
            (row, first_alike (without g link) numbers s (mark_of p) w alike same row first, written);
        leaves = f'.leaves;
      }
