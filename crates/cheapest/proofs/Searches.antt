-- Searches over candidates. The departures of a row are tried from the last place on; each try keeps the
-- front before its place, so the next try finds what it needs. The candidates of given link numbers are
-- found in one run, as the test `matches` goes.
use Rattle.std.proofs.Common.{◌≡◌, ℕ, ◌+◌, ◌<◌, ◌≤◌, Bool, true, false, not, ◌&&◌, eqb, List, [], ◌∷◌, map, length, get_or, take, drop, set, sym, refl, ap, ◌∙◌, subst, inl, inr, arith}
use Rattle.std.proofs.lemmas.List.{drop_more, drop_all}
use Rattle.std.proofs.lemmas.Bool.{cases_eq, cond-true, cond-false, eq-eqb, ne_eqb, false≢true}
use Rattle.forests.specs.Closures.{push}
use Rattle.forests.specs.Labels.{below}
use Rattle.cheapest.specs.Scans.{ring, departed, matches, Fronts, Placed, Matched}
use Rattle.cheapest.proofs.Prefixes.{push_set}
use Rattle.cheapest.proofs.Growth.{below_from, below_past, placed_more, placed_less}

-- The state of a search that has tried the departures from place i on.
pub record Trying (start end class : ℕ → ℕ) (n : ℕ) (wanted row₀ row : List ℕ) (stack : List (List ℕ)) (i : ℕ) : Type 0 where
  pub far : i ≤ length wanted
  pub same : take i row ≡ take i row₀
  pub placed : Placed start end class n wanted row stack i
  pub misses : (j : ℕ) → i ≤ j → j < length wanted → map class (departed start end n row₀ j) ≡ wanted → ⊥

pub matches_none : (test : List ℕ → ℕ → Bool) (number : ℕ → ℕ) (S cs : List ℕ) → matches test number S cs [] ≡ true
matches_none test number S [] = refl
matches_none test number S (x ∷ cs) = refl

-- The state of a run that looks for the candidates of link numbers, and has found p of them below c.
pub record Matching (start end number : ℕ → ℕ) (n : ℕ) (numbers row : List ℕ) (stack : List (List ℕ)) (p c : ℕ) : Type 0 where
  pub wide : length row ≡ 64
  pub far : p ≤ length numbers
  pub placed : Placed start end number n numbers row stack p
  pub whole : matches (ring start end) number [] (below n) numbers
      ≡ matches (ring start end) number (push [] (take p row)) (drop c (below n)) (drop p numbers)

module _ {start end number : ℕ → ℕ} {n : ℕ} {numbers row : List ℕ} {stack : List (List ℕ)} {p c : ℕ}
    (here : Matching start end number n numbers row stack p c) where
  -- the test at this candidate and this link
  at_both : c < n → p < length numbers
      → matches (ring start end) number (push [] (take p row)) (drop c (below n)) (drop p numbers)
      ≡ matches (ring start end) number (push [] (take p row)) (c ∷ drop (c + 1) (below n)) (get_or numbers p 0 ∷ drop (p + 1) numbers)
  at_both l k =
      ap (λ cs. matches (ring start end) number (push [] (take p row)) cs (drop p numbers)) (below_from n c l)
      ∙ ap (λ xs. matches (ring start end) number (push [] (take p row)) (c ∷ drop (c + 1) (below n)) xs) (drop_more numbers p 0 k)

  spoilt : matches (ring start end) number [] (below n) numbers ≡ false → Matched start end number n numbers row stack false
  spoilt e = record {
    answers = sym e;
    empty = (placed_less start end number n numbers row stack p 0 (omega arith) here.placed).fronts;
    placed = λ b. absurd (false≢true b);
  }

  pub matched_all : length numbers ≤ p → Matched start end number n numbers row stack true
  matched_all l = record {
    answers = sym (here.whole
        ∙ ap (λ xs. matches (ring start end) number (push [] (take p row)) (drop c (below n)) xs) (drop_all p numbers l)
        ∙ matches_none (ring start end) number (push [] (take p row)) (drop c (below n)));
    empty = (placed_less start end number n numbers row stack p 0 (omega arith) here.placed).fronts;
    placed = λ _. placed_less start end number n numbers row stack p (length numbers) l here.placed;
  }

  -- no candidate is left
  pub matched_end : n ≤ c → Matched start end number n numbers row stack (eqb p (length numbers))
  matched_end l =
      let is = λ (r : Bool). Matched start end number n numbers row stack r in
      elim (cases_eq p (length numbers)) [
        | inl e ↦ subst is (sym (eq-eqb p (length numbers) e)) (matched_all (omega arith))
        | inr ne ↦ subst is (sym (ne_eqb p (length numbers) ne)) (spoilt (here.whole
            ∙ ap (λ cs. matches (ring start end) number (push [] (take p row)) cs (drop p numbers)) (below_past n c l)
            ∙ ap (λ xs. matches (ring start end) number (push [] (take p row)) [] xs) (drop_more numbers p 0 (omega (arith, here.far)))))
      ]

  -- the candidate is the link sought
  module _ (l : c < n) (k : p < length numbers) (hit : number c ≡ get_or numbers p 0) where
    at_hit : matches (ring start end) number [] (below n) numbers
        ≡ (not (ring start end (push [] (take p row)) c) && matches (ring start end) number (c ∷ push [] (take p row)) (drop (c + 1) (below n)) (drop (p + 1) numbers))
    at_hit = here.whole ∙ at_both l k ∙ cond-true (eqb (number c) (get_or numbers p 0)) _ _ (eq-eqb (number c) (get_or numbers p 0) hit)

    pub unmatched_ring : ring start end (push [] (take p row)) c ≡ true → Matched start end number n numbers row stack false
    unmatched_ring t = spoilt (at_hit ∙ ap (λ b. not b && matches (ring start end) number (c ∷ push [] (take p row)) (drop (c + 1) (below n)) (drop (p + 1) numbers)) t)

    pub matching_take : (row' : List ℕ) (stack' : List (List ℕ)) → p < 64 → ring start end (push [] (take p row)) c ≡ false
        → row' ≡ set row p c → length row' ≡ 64 → Fronts start end row' stack' (p + 1) → Matching start end number n numbers row' stack' (p + 1) (c + 1)
    matching_take row' stack' lw f e wide fronts =
        let inside : p < length row = omega (arith, here.wide) in
        let rest = drop (c + 1) (below n) in
        record {
          wide = wide;
          far = omega arith;
          placed = subst (λ r. Placed start end number n numbers r stack' (p + 1)) (sym e)
              (placed_more start end number n numbers row stack stack' p c inside l hit here.placed (subst (λ r. Fronts start end r stack' (p + 1)) e fronts));
          whole = at_hit
              ∙ ap (λ b. not b && matches (ring start end) number (c ∷ push [] (take p row)) rest (drop (p + 1) numbers)) f
              ∙ ap (λ S. matches (ring start end) number S rest (drop (p + 1) numbers)) (sym (push_set row p c inside))
              ∙ ap (λ r. matches (ring start end) number (push [] (take (p + 1) r)) rest (drop (p + 1) numbers)) (sym e);
        }

  pub matching_skip : c < n → p < length numbers → (number c ≡ get_or numbers p 0 → ⊥) → Matching start end number n numbers row stack p (c + 1)
  matching_skip l k ne = record {
    wide = here.wide;
    far = here.far;
    placed = here.placed;
    whole = here.whole ∙ at_both l k
        ∙ cond-false (eqb (number c) (get_or numbers p 0)) _ _ (ne_eqb (number c) (get_or numbers p 0) ne)
        ∙ ap (λ xs. matches (ring start end) number (push [] (take p row)) (drop (c + 1) (below n)) xs) (sym (drop_more numbers p 0 k));
  }
