-- The first row, joined sites, and what closing one link makes of a graph.
use Rattle.std.proofs.Common.{◌≡◌, ℕ, ◌≤◌, Bool, true, false, not, ◌&&◌, eqb, ltb, List, length, get_or, set, sym, refl, ap, ◌∙◌, subst, ⊎_elim, arith}
use Rattle.std.proofs.lemmas.List.{get_or-set_same, get_or-set_other, set-set, set-get_or}
use Rattle.std.proofs.lemmas.Bool.{cases_Bool, eqb-true, eqb-false, ltb-true}
use Rattle.forests.specs.Graphs.{Graph, SitesJoined}
use Rattle.weights.specs.Amounts.{numbers}
use Rattle.weights.specs.Scales.{Scale}
use Rattle.cheapest.specs.Plans.{graph_of, mark_of}
use Rattle.cheapest.specs.Positions.{plan_of, is_on, row_of, Steps, Begins}
use Rattle.cheapest.specs.declared.enumeration.Rows.{Rows}
use Rattle.cheapest.specs.declared.plan.Plan.{Plan}
use Rattle.networks.specs.Trials.{FirstRow}

pub first_found : (p : Plan) (before after : Rows) → plan_of before ≡ p → is_on before ≡ false → Steps before after → FirstRow (graph_of p) numbers (mark_of p) (row_of after)
first_found p before after is off steps =
    let b : Begins p (row_of after) = subst (λ (q : Plan). Begins q (row_of after)) is (steps.begins off) in
    record { member = b.member; none_before = b.none_before }

pub first_joins : (g : Graph) (s : Scale) (w : ℕ → s.Amount) (r : List ℕ) → FirstRow g s w r → SitesJoined g
first_joins g s w r f = (let size = f.member.row.tree.size in omega arith, r, f.member.row.tree.allowed, f.member.row.tree.joins)

and_false : (b : Bool) → (b && false) ≡ false
and_false true = refl
and_false false = refl

and_true : (b : Bool) → (b && true) ≡ b
and_true true = refl
and_true false = refl

-- A link that is closed in the record is not open, and every other link is as before.
pub closed_usable : (xs : List Bool) (m link e : ℕ) → length xs ≡ 512 → m ≤ 512
    → (ltb e m && not (get_or (set xs link true) e false)) ≡ ((ltb e m && not (get_or xs e false)) && not (eqb e link))
closed_usable xs m link e wide few =
    ⊎_elim
    (λ same. ⊎_elim
    (λ inside.
    let l = ltb-true e m inside in
    let here = eqb-true e link same in
    ap (λ (b : Bool). ltb e m && not b) (ap (λ (i : ℕ). get_or (set xs i true) e false) (sym here) ∙ get_or-set_same xs e true false (omega arith))
    ∙ and_false (ltb e m) ∙ sym (ap (λ (b : Bool). (ltb e m && not (get_or xs e false)) && not b) same ∙ and_false _))
    (λ outside. ap (λ (b : Bool). b && not (get_or (set xs link true) e false)) outside ∙ sym (ap (λ (b : Bool). (b && not (get_or xs e false)) && not (eqb e link)) outside))
    (cases_Bool (ltb e m)))
    (λ other.
    ap (λ (b : Bool). ltb e m && not b) (get_or-set_other xs link e true false (eqb-false e link other))
    ∙ sym (ap (λ (b : Bool). (ltb e m && not (get_or xs e false)) && not b) other ∙ and_true _))
    (cases_Bool (eqb e link))

-- A link that is put back to its old state leaves the record as it was.
pub put_back : (xs : List Bool) (link e : ℕ) → get_or (set (set xs link true) link (get_or xs link false)) e false ≡ get_or xs e false
put_back xs link e = ap (λ (ys : List Bool). get_or ys e false) (set-set xs link true (get_or xs link false) ∙ set-get_or xs link false)
