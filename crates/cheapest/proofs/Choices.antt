-- All ways to choose k of the candidates, listed in the order of rows: first those with the first
-- candidate, then those without. Every rising list of k candidates is among them, and each choice
-- comes before the later ones.
use Rattle.std.proofs.Common.{◌≡◌, ℕ, zero, suc, ◌<◌, List, [], ◌∷◌, ◌++◌, length, sym, refl, ap, subst, inl, inr, arith}
use Rattle.forests.specs.Lists.{In, Within, Ordered, Rising}
use Rattle.forests.proofs.Members.{in_left, in_right, in_either}
use Rattle.cheapest.specs.Rows.{Earlier}
use Rattle.cheapest.proofs.Orders.{ordered_append}

-- every row with c put before it
abbrev pub begun : ℕ → List (List ℕ) → List (List ℕ)
begun c [] = []
begun c (r ∷ rs) = (c ∷ r) ∷ begun c rs

abbrev pub choices : ℕ → List ℕ → List (List ℕ)
choices zero cs = [] ∷ []
choices (suc k) [] = []
choices (suc k) (c ∷ cs) = begun c (choices k cs) ++ choices (suc k) cs

pub begun-in : (c : ℕ) (r : List ℕ) (rs : List (List ℕ)) → In r (begun c rs) → (t : List ℕ) × (r ≡ c ∷ t) × In t rs
begun-in c r [] m = absurd m
begun-in c r (q ∷ rs) (inl e) = (q, e, inl refl)
begun-in c r (q ∷ rs) (inr m) = let p = begun-in c r rs m in (p.0, p.1, inr p.2)

pub in-begun : (c : ℕ) (t : List ℕ) (rs : List (List ℕ)) → In t rs → In (c ∷ t) (begun c rs)
in-begun c t [] m = m
in-begun c t (q ∷ rs) (inl e) = inl (ap (λ z. c ∷ z) e)
in-begun c t (q ∷ rs) (inr m) = inr (in-begun c t rs m)

pub begun-ordered : (key : ℕ → ℕ) (c : ℕ) (rs : List (List ℕ)) → Ordered (Earlier key) rs → Ordered (Earlier key) (begun c rs)
begun-ordered key c [] o = tt
begun-ordered key c (q ∷ rs) o = (
  λ r m. let p = begun-in c r rs m in subst (λ z. Earlier key (c ∷ q) z) (sym p.1) (inr (refl, o.0 p.0 p.2)),
  begun-ordered key c rs o.1,
)

-- a choice of one and more begins with a candidate
pub choice-head : (k : ℕ) (cs r : List ℕ) → In r (choices (suc k) cs) → (c : ℕ) × (t : List ℕ) × (r ≡ c ∷ t) × In c cs
choice-head k [] r m = absurd m
choice-head k (c ∷ cs) r m = elim (in_either r (begun c (choices k cs)) (choices (suc k) cs) m) [
  | inl a ↦ let p = begun-in c r (choices k cs) a in (c, p.0, p.1, inl refl)
  | inr b ↦ let p = choice-head k cs r b in (p.0, p.1, p.2, inr p.3)
]

pub choices-ordered : (key : ℕ → ℕ) (k : ℕ) (cs : List ℕ) → Rising key cs → Ordered (Earlier key) (choices k cs)
choices-ordered key zero cs r = (λ _ m. absurd m, tt)
choices-ordered key (suc k) [] r = tt
choices-ordered key (suc k) (c ∷ cs) r =
    ordered_append (Earlier key) (begun c (choices k cs)) (choices (suc k) cs)
    (begun-ordered key c (choices k cs) (choices-ordered key k cs r.1))
    (choices-ordered key (suc k) cs r.1)
    (λ x y a b.
    let p = begun-in c x (choices k cs) a in
    let q = choice-head k cs y b in
    subst (λ z. Earlier key z y) (sym p.1) (subst (λ z. Earlier key (c ∷ p.0) z) (sym q.2) (inl (r.0 q.0 q.3))))

pub choice-sound : (key : ℕ → ℕ) (k : ℕ) (cs r : List ℕ) → Rising key cs → In r (choices k cs) → Rising key r × Within r cs × (length r ≡ k)
choice-sound key zero cs r o (inl e) = subst (λ z. Rising key z × Within z cs × (length z ≡ 0)) (sym e) (tt, (λ _ m. absurd m), refl)
choice-sound key zero cs r o (inr m) = absurd m
choice-sound key (suc k) [] r o m = absurd m
choice-sound key (suc k) (c ∷ cs) r o m = elim (in_either r (begun c (choices k cs)) (choices (suc k) cs) m) [
  | inl a ↦
      let p = begun-in c r (choices k cs) a in
      let q = choice-sound key k cs p.0 o.1 p.2 in
      subst (λ z. Rising key z × Within z (c ∷ cs) × (length z ≡ suc k)) (sym p.1)
      ((λ y h. o.0 y (q.1 y h), q.0), (λ y h. elim h [ inl e ↦ inl e | inr t ↦ inr (q.1 y t) ]), ap suc q.2)
  | inr b ↦ let q = choice-sound key (suc k) cs r o.1 b in (q.0, (λ y h. inr (q.1 y h)), q.2)
]

pub choice-whole : (key : ℕ → ℕ) (k : ℕ) (cs r : List ℕ) → Rising key cs → Rising key r → Within r cs → length r ≡ k → In r (choices k cs)
choice-whole key zero cs [] oc o within e = inl refl
choice-whole key zero cs (x ∷ r) oc o within e = absurd (omega arith)
choice-whole key (suc k) cs [] oc o within e = absurd (omega arith)
choice-whole key (suc k) [] (x ∷ r) oc o within e = absurd (within x (inl refl))
choice-whole key (suc k) (c ∷ cs) (x ∷ r) oc o within e =
    -- whatever has a key above c's is not c
    let later : (y : ℕ) → In y (x ∷ r) → key c < key y → In y cs = λ y m l.
    elim (within y m) [ inl h ↦ absurd (omega (arith, ap key h)) | inr h ↦ h ] in
    elim (within x (inl refl)) [
      | inl h ↦ in_left (x ∷ r) (begun c (choices k cs)) (choices (suc k) cs)
          (subst (λ z. In (z ∷ r) (begun c (choices k cs))) (sym h)
          (in-begun c r (choices k cs) (choice-whole key k cs r oc.1 o.1 (λ y m. later y (inr m) (omega (arith, ap key h, o.0 y m))) (omega arith))))
      | inr h ↦ in_right (x ∷ r) (begun c (choices k cs)) (choices (suc k) cs)
          (choice-whole key (suc k) cs (x ∷ r) oc.1 o
          (λ y m. later y m (elim m [ inl g ↦ omega (arith, ap key g, oc.0 x h) | inr g ↦ omega (arith, o.0 y g, oc.0 x h) ])) e)
    ]
