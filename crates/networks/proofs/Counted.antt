-- How many numbers have a property, one number more at a time.
use Rattle.std.proofs.Common.{◌≡◌, ℕ, ◌+◌, ◌<◌, eqb, ◌⊎◌, ◌↔◌, [], ◌∷◌, sym, refl, subst, inl, inr, ⊎_elim, arith}
use Rattle.std.proofs.lemmas.Bool.{cases_Bool, eqb-true, eqb-false}
use Rattle.networks.specs.Classes.{Counted}

pub counted_none : (P : ℕ → Type 0) → Counted P 0 0
counted_none P = record { members = []; different = tt; exactly = λ e. ((λ i. absurd i), (λ h. absurd (omega (arith, h.0)))); many = refl }

module _ (P : ℕ → Type 0) (m k : ℕ) (so_far : Counted P m k) where
  last_or_below : (e : ℕ) → e < m + 1 → (e ≡ m) ⊎ (e < m)
  last_or_below e l = ⊎_elim (λ same. inl (eqb-true e m same)) (λ other. inr (let apart = eqb-false e m other in omega arith)) (cases_Bool (eqb e m))

  pub counted_more : P m → Counted P (m + 1) (k + 1)
  counted_more p = record {
    members = m ∷ so_far.members;
    different = ((λ i. absurd (let l = ((so_far.exactly m).0 i).0 in omega arith)), so_far.different);
    exactly = λ e. (
      (λ i. elim i [
        | inl same ↦ (omega (arith, same), subst P (sym same) p)
        | inr i ↦ (let l = ((so_far.exactly e).0 i).0 in omega arith, ((so_far.exactly e).0 i).1)
      ]),
      (λ h. elim (last_or_below e h.0) [
        | inl same ↦ inl same
        | inr l ↦ inr ((so_far.exactly e).1 (l, h.1))
      ]),
    );
    many = omega (arith, so_far.many);
  }

  pub counted_same : (P m → ⊥) → Counted P (m + 1) k
  counted_same none = record {
    members = so_far.members;
    different = so_far.different;
    exactly = λ e. (
      (λ i. (let l = ((so_far.exactly e).0 i).0 in omega arith, ((so_far.exactly e).0 i).1)),
      (λ h. elim (last_or_below e h.0) [
        | inl same ↦ absurd (none (subst P same h.1))
        | inr l ↦ (so_far.exactly e).1 (l, h.1)
      ]),
    );
    many = so_far.many;
  }

pub counted_alike : (P Q : ℕ → Type 0) (m k : ℕ) → ((e : ℕ) → P e ↔ Q e) → Counted P m k → Counted Q m k
counted_alike P Q m k same c = record {
  members = c.members;
  different = c.different;
  exactly = λ e. ((λ i. (((c.exactly e).0 i).0, (same e).0 ((c.exactly e).0 i).1)), (λ h. (c.exactly e).1 (h.0, (same e).1 h.1)));
  many = c.many;
}
