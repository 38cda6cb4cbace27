-- What the rules of opening and of a price refuse: the first faulty link, the first faulty entry.
use Rattle.std.proofs.Common.{◌≡◌, ℕ, zero, suc, ◌+◌, ◌<◌, true, not, ◌&&◌, ◌||◌, eqb, ltb, leb, ◌⊎◌, List, [], ◌∷◌, length, get_or, take, Some, None, sym, refl, ap, ◌∙◌, subst, inl, inr, ⊎_elim, zero-add, arith}
use Rattle.std.proofs.lemmas.Bool.{cond-false, not-true, not-false, not_from_true, not_from_false, and_parts, and_from, or_cases, or_parts, or_from, lt-ltb, ltb-true, ltb-false, le-leb, leb-true, leb-false, lt-leb, le-ltb, eqb-true}
use Rattle.networks.specs.Links.{sound, from_of, to_of}
use Rattle.networks.specs.Opening.{link_rules, open_rules, OpeningLaws}
use Rattle.networks.specs.Pricing.{price_rules, Priced, PricingLaws}
use Rattle.networks.specs.Refusals.{at, first_of}
use Rattle.networks.specs.declared.links.Link.{Link}
use Rattle.networks.specs.declared.refusals.Layer.TheVariants.{Network}
use Rattle.networks.specs.declared.refusals.Report.{Report}
use Rattle.networks.proofs.Rules.{decided, never}

-- the numbers of a report
number_of : {a b : Report} → a ≡ b → a.number ≡ b.number
number_of e = ap (λ (r : Report). r.number) e

place_of : {a b : Report} → a ≡ b → a.place ≡ b.place
place_of e = ap (λ (r : Report). r.place) e

module _ {W : Type 0} (sites : ℕ) where
  Outside : List (Link W) → ℕ → Type 0
  Outside links k = (from_of links k < sites) × (to_of links k < sites) → ⊥

  Self : List (Link W) → ℕ → Type 0
  Self links k = (from_of links k < sites) × (from_of links k ≡ to_of links k)

  -- the rules of links refuse at a place with sound links before it
  faults : (number : ℕ) (links : List (Link W)) (r : Report) → first_of (link_rules sites number links) ≡ Some r → (k : ℕ) × (k < length links) × (sound sites (take k links) ≡ true) × (((at Network 8 (number + k) ≡ r) × Outside links k) ⊎ ((at Network 9 (number + k) ≡ r) × Self links k))
  unfolding Outside Self
  faults number [] r e = absurd (never r e)
  faults number (link ∷ links) r e =
      let both = ltb link.from sites && ltb link.to sites in
      ⊎_elim
      (λ x. (
        zero,
        omega arith,
        refl,
        inl (
          ap (λ n. at Network 8 n) (omega arith) ∙ x.1,
          λ inside.
              (let no_way = not-true both x.0 in let yes_way = and_from (ltb link.from sites) (ltb link.to sites) (lt-ltb link.from sites inside.0) (lt-ltb link.to sites inside.1) in
              cc),
        ),
      ))
      (λ x.
      let ends = and_parts (ltb link.from sites) (ltb link.to sites) (not-false both x.0) in
      ⊎_elim
      (λ y. (zero, omega arith, refl, inr (ap (λ n. at Network 9 n) (omega arith) ∙ y.1, (ltb-true link.from sites ends.0, eqb-true link.from link.to y.0))))
      (λ y.
      let rest = faults (number + 1) links r y.1 in
      let k = rest.0 in
      let here : (ltb link.from sites && (ltb link.to sites && not (eqb link.from link.to))) ≡ true =
      and_from _ _ ends.0 (and_from _ _ ends.1 (not_from_false _ y.0)) in (
        suc k,
        (let l = rest.1 in omega arith),
        and_from _ _ here rest.2,
        ⊎_elim
            (λ z. inl (ap (λ n. at Network 8 n) (omega arith) ∙ z.0, z.1))
            (λ z. inr (ap (λ n. at Network 9 n) (omega arith) ∙ z.0, z.1))
            rest.3,
      ))
      (decided (eqb link.from link.to) (at Network 9 number) r _ x.1))
      (decided (not both) (at Network 8 number) r _ e)

  -- sound links pass
  sound_pass : (number : ℕ) (links : List (Link W)) → sound sites links ≡ true → first_of (link_rules sites number links) ≡ None
  sound_pass number [] h = refl
  sound_pass number (link ∷ links) h =
      let parts = and_parts _ _ h in
      let here = and_parts _ _ parts.0 in
      let more = and_parts _ _ here.1 in
      cond-false _ _ _ (not_from_true _ (and_from (ltb link.from sites) (ltb link.to sites) here.0 more.0))
      ∙ cond-false _ _ _ (not-true _ more.1)
      ∙ sound_pass (number + 1) links parts.1

  -- a refusal other than 5 and 6 is one of links
  of_links : (links : List (Link W)) (number k : ℕ) → 6 < number → first_of (open_rules sites links) ≡ Some (at Network number k) → first_of (link_rules sites 0 links) ≡ Some (at Network number k)
  of_links links number k l e =
      ⊎_elim
      (λ x. absurd (let n = number_of x.1 in omega arith))
      (λ x. ⊎_elim (λ y. absurd (let n = number_of y.1 in omega arith)) (λ y. y.1) (decided (ltb 512 (length links)) (at Network 6 0) (at Network number k) _ x.1))
      (decided (not (leb 1 sites && leb sites 64)) (at Network 5 0) (at Network number k) _ e)

pub opening_laws : (W : Type 0) → OpeningLaws W
unfolding Outside Self
opening_laws W = record {
  accepts = λ sites links a b c h.
      cond-false _ _ _ (not_from_true _ (and_from (leb 1 sites) (leb sites 64) (le-leb 1 sites a) (le-leb sites 64 b)))
      ∙ cond-false _ _ _ (le-ltb 512 (length links) c)
      ∙ sound_pass sites 0 links h;
  outside = λ sites links k e.
      let f = faults sites 0 links (at Network 8 k) (of_links sites links 8 k (omega arith) e) in
      ⊎_elim
      (λ x. let same : f.0 ≡ k = sym (zero-add f.0) ∙ place_of x.0 in
      subst (λ (n : ℕ). (n < length links) × (sound sites (take n links) ≡ true) × ((from_of links n < sites) × (to_of links n < sites) → ⊥)) same (f.1, f.2, x.1))
      (λ x. absurd (let n = number_of x.0 in omega arith))
      f.3;
  self_link = λ sites links k e.
      let f = faults sites 0 links (at Network 9 k) (of_links sites links 9 k (omega arith) e) in
      ⊎_elim
      (λ x. absurd (let n = number_of x.0 in omega arith))
      (λ x. let same : f.0 ≡ k = sym (zero-add f.0) ∙ place_of x.0 in
      subst (λ (n : ℕ). (n < length links) × (sound sites (take n links) ≡ true) × (from_of links n < sites) × (from_of links n ≡ to_of links n)) same (f.1, f.2, x.1.0, x.1.1))
      f.3;
}

module _ (m : ℕ) where
  -- the rules of a price refuse at an entry with good entries before it
  price_faults : (number : ℕ) (row : List ℕ) (r : Report) → first_of (price_rules m number row) ≡ Some r → (k : ℕ) × (k < length row) × (at Network 14 (number + k) ≡ r) × ((number + k < 63) × (get_or row k 0 < m) → ⊥) × ((j : ℕ) → j < k → (number + j < 63) × (get_or row j 0 < m))
  price_faults number [] r e = absurd (never r e)
  price_faults number (entry ∷ row) r e =
      let test = leb 63 number || not (ltb entry m) in
      ⊎_elim
      (λ x. (
        zero,
        omega arith,
        ap (λ n. at Network 14 n) (omega arith) ∙ x.1,
        (λ good. ⊎_elim
            (λ a. let h = leb-true 63 number a in let g = good.0 in omega arith)
            (λ b. let h = ltb-false entry m (not-true (ltb entry m) b) in let g = good.1 in omega arith)
            (or_cases (leb 63 number) (not (ltb entry m)) x.0)),
        λ j l. absurd (omega arith),
      ))
      (λ x.
      let rest = price_faults (number + 1) row r x.1 in
      let k = rest.0 in
      let parts = or_parts (leb 63 number) (not (ltb entry m)) x.0 in
      let low = leb-false 63 number parts.0 in
      let here = ltb-true entry m (not-false (ltb entry m) parts.1) in (
        suc k,
        (let l = rest.1 in omega arith),
        ap (λ n. at Network 14 n) (omega arith) ∙ rest.2,
        (λ good. rest.3 ((let g = good.0 in omega arith), good.1)),
        before number entry row k low here rest.4,
      ))
      (decided test (at Network 14 number) r _ e)
    where
      before : (number entry : ℕ) (row : List ℕ) (k : ℕ) → number < 63 → entry < m → ((j : ℕ) → j < k → (number + 1 + j < 63) × (get_or row j 0 < m)) → (j : ℕ) → j < suc k → (number + j < 63) × (get_or (entry ∷ row) j 0 < m)
      before number entry row k low here rest zero l = (omega arith, here)
      before number entry row k low here rest (suc j) l = ((let r = (rest j (omega arith)).0 in omega arith), (rest j (omega arith)).1)

  price_pass : (number : ℕ) (row : List ℕ) → ((k : ℕ) → k < length row → (number + k < 63) × (get_or row k 0 < m)) → first_of (price_rules m number row) ≡ None
  price_pass number [] h = refl
  price_pass number (entry ∷ row) h =
      let here = h zero (omega arith) in
      cond-false _ _ _
      (or_from (leb 63 number) (not (ltb entry m)) (lt-leb 63 number (let a = here.0 in omega arith)) (not_from_true (ltb entry m) (lt-ltb entry m here.1)))
      ∙ price_pass (number + 1) row (λ k l. ((let a = (h (suc k) (omega arith)).0 in omega arith), (h (suc k) (omega arith)).1))

pub pricing_laws : PricingLaws
pricing_laws = record {
  accepts = λ m row h. price_pass m 0 row (λ k l. ((let a = (h k l).0 in omega arith), (h k l).1));
  first = λ m row k e.
      let f = price_faults m 0 row (at Network 14 k) e in
      let same : f.0 ≡ k = sym (zero-add f.0) ∙ place_of f.2 in
      subst (λ (n : ℕ). (n < length row) × (Priced m row n → ⊥) × ((j : ℕ) → j < n → Priced m row j)) same
      (f.1, (λ good. f.3 ((let a = good.0 in omega arith), good.1)), λ j l. ((let a = (f.4 j l).0 in omega arith), (f.4 j l).1));
}
