-- A site's label names its component. A site is always joined to its label, so sites of one label
-- are joined; and each link makes the labels of its ends one, so joined sites have one label. The
-- one fact on relabelling: two labels that are made one were equal already, or were the two labels
-- of the new link's ends. Exchange is this fact read as a statement on chains.
use Rattle.std.proofs.Common.{◌≡◌, ℕ, eqb, ◌⊎◌, List, [], ◌∷◌, sym, refl, ap, ◌∙◌, subst, inl, inr}
use Rattle.std.proofs.lemmas.Bool.{cases_eq, eq-eqb, ne_eqb, cond-true, cond-false}
use Rattle.std.proofs.lemmas.Bool.Decides.{Decides-eqb, Decides-like}
use Rattle.forests.specs.Lists.{In, Within}
use Rattle.forests.specs.Graphs.{Joined, Spans}
use Rattle.forests.specs.Graphs.Joined.{link, same, turn, chain}
use Rattle.forests.specs.Labels.{relabel, find, spanned}
use Rattle.forests.specs.Closures.{Closure, Covers}

pub relabel_hit : (p q : ℕ) → relabel p q p ≡ q
relabel_hit p q = cond-true (eqb p p) q p (eq-eqb p p refl)

pub relabel_miss : (p q x : ℕ) → (x ≡ p → ⊥) → relabel p q x ≡ x
relabel_miss p q x n = cond-false (eqb x p) q x (ne_eqb x p n)

pub relabel_one : (p q x y : ℕ) → relabel p q x ≡ relabel p q y → (x ≡ y) ⊎ (((x ≡ p) × (y ≡ q)) ⊎ ((x ≡ q) × (y ≡ p)))
relabel_one p q x y e = elim (cases_eq x p) [
  | inl xp ↦ elim (cases_eq y p) [
    | inl yp ↦ inl (xp ∙ sym yp)
    | inr yn ↦ inr (inl (xp, sym (relabel_miss p q y yn) ∙ sym e ∙ ap (relabel p q) xp ∙ relabel_hit p q))
  ]
  | inr xn ↦ elim (cases_eq y p) [
    | inl yp ↦ inr (inr (sym (relabel_miss p q x xn) ∙ e ∙ ap (relabel p q) yp ∙ relabel_hit p q, yp))
    | inr yn ↦ inl (sym (relabel_miss p q x xn) ∙ e ∙ relabel_miss p q y yn)
  ]
]

module _ (from to : ℕ → ℕ) where
  pub joined_wider : (S S' : List ℕ) → Within S S' → (u v : ℕ) → Joined from to S u v → Joined from to S' u v
  joined_wider S S' w u v (link e m a b) = link e (w e m) a b
  joined_wider S S' w u v (same e) = same e
  joined_wider S S' w u v (turn j) = turn (joined_wider S S' w v u j)
  joined_wider S S' w u v (chain x j k) = chain x (joined_wider S S' w u x j) (joined_wider S S' w x v k)

  joined_more : (f : ℕ) (S : List ℕ) (u v : ℕ) → Joined from to S u v → Joined from to (f ∷ S) u v
  joined_more f S u v j = joined_wider S (f ∷ S) (λ _ m. inr m) u v j

  -- a site is joined to its label
  pub to_label : (S : List ℕ) (u : ℕ) → Joined from to S u (find from to S u)
  to_label [] u = same refl
  to_label (f ∷ S) u =
      let J : ℕ → ℕ → Type 0 = Joined from to (f ∷ S) in
      let x = find from to S u in
      let p = find from to S (from f) in
      let q = find from to S (to f) in
      let ux : J u x = joined_more f S u x (to_label S u) in
      let fp : J (from f) p = joined_more f S (from f) p (to_label S (from f)) in
      let tq : J (to f) q = joined_more f S (to f) q (to_label S (to f)) in
      elim (cases_eq x p) [
        | inl e ↦
            let pq : J p q = chain (from f) (turn fp) (chain (to f) (link f (inl refl) refl refl) tq) in
            subst (λ z. J u z) (sym (ap (relabel p q) e ∙ relabel_hit p q)) (chain p (chain x ux (same e)) pq)
        | inr n ↦ subst (λ z. J u z) (sym (relabel_miss p q x n)) ux
      ]

  -- the ends of a chosen link have one label
  pub link_label : (S : List ℕ) (e : ℕ) → In e S → find from to S (from e) ≡ find from to S (to e)
  link_label [] e m = absurd m
  link_label (f ∷ S) e (inl k) =
      let p = find from to S (from f) in
      let q = find from to S (to f) in
      let one : relabel p q p ≡ relabel p q q = elim (cases_eq q p) [
        | inl h ↦ ap (relabel p q) (sym h)
        | inr n ↦ relabel_hit p q ∙ sym (relabel_miss p q q n)
      ] in
      subst (λ z. find from to (f ∷ S) (from z) ≡ find from to (f ∷ S) (to z)) (sym k) one
  link_label (f ∷ S) e (inr m) = ap (relabel (find from to S (from f)) (find from to S (to f))) (link_label S e m)

  pub joined_label : (S : List ℕ) (u v : ℕ) → Joined from to S u v → find from to S u ≡ find from to S v
  joined_label S u v (link e m a b) = ap (find from to S) (sym a) ∙ link_label S e m ∙ ap (find from to S) b
  joined_label S u v (same e) = ap (find from to S) e
  joined_label S u v (turn j) = sym (joined_label S v u j)
  joined_label S u v (chain w j k) = joined_label S u w j ∙ joined_label S w v k

  pub label_joined : (S : List ℕ) (u v : ℕ) → find from to S u ≡ find from to S v → Joined from to S u v
  label_joined S u v e = chain (find from to S u) (to_label S u) (chain (find from to S v) (same e) (turn (to_label S v)))

  -- a label is its own label
  pub label_twice : (S : List ℕ) (u : ℕ) → find from to S (find from to S u) ≡ find from to S u
  label_twice S u = sym (joined_label S u (find from to S u) (to_label S u))

  -- what the new link f joins, and S does not, could serve in its place
  pub chains_exchange : (S : List ℕ) (e f : ℕ) → Spans from to (f ∷ S) e → Spans from to S e ⊎ Spans from to (e ∷ S) f
  chains_exchange S e f h =
      let J : ℕ → ℕ → Type 0 = Joined from to (e ∷ S) in
      let old : (u v : ℕ) → find from to S u ≡ find from to S v → J u v = λ u v k. joined_more e S u v (label_joined S u v k) in
      let new : J (from e) (to e) = link e (inl refl) refl refl in
      elim (relabel_one (find from to S (from f)) (find from to S (to f)) (find from to S (from e)) (find from to S (to e))
      (joined_label (f ∷ S) (from e) (to e) h)) [
        | inl k ↦ inl (label_joined S (from e) (to e) k)
        | inr (inl k) ↦ inr (chain (from e) (old (from f) (from e) (sym k.0)) (chain (to e) new (old (to e) (to f) k.1)))
        | inr (inr k) ↦ inr (chain (to e) (old (from f) (to e) (sym k.1)) (chain (from e) (turn new) (old (from e) (to f) k.0)))
      ]

  pub chains_trans : (S S' : List ℕ) (u v : ℕ) → Covers (Spans from to) S' S → Joined from to S u v → Joined from to S' u v
  chains_trans S S' u v c (link e m a b) =
      chain (from e) (same (sym a)) (chain (to e) (c e m) (same b))
  chains_trans S S' u v c (same e) = same e
  chains_trans S S' u v c (turn j) = turn (chains_trans S S' v u c j)
  chains_trans S S' u v c (chain w j k) = chain w (chains_trans S S' u w c j) (chains_trans S S' w v c k)

  -- chains of links are a closure, tested by labels
  pub chains : Closure (Spans from to) (spanned from to)
  chains = record {
    mem = λ S e m. link e m refl refl;
    trans = λ S S' e c h. chains_trans S S' (from e) (to e) c h;
    exchange = chains_exchange;
    dec = λ S e. Decides-like (spanned from to S e) (label_joined S (from e) (to e)) (joined_label S (from e) (to e))
        (Decides-eqb (find from to S (from e)) (find from to S (to e)));
  }
