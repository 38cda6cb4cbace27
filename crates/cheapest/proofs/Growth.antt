-- A run over the candidates that completes a row. What is completed from the start is what is completed
-- from here: a candidate that closes a ring is passed over, and any other is the next of the row. So the
-- run ends with the whole completion, or at a place where its class is another than wanted.
use Rattle.std.proofs.Common.{◌≡◌, ℕ, ◌+◌, ◌-◌, ◌<◌, ◌≤◌, Bool, true, false, eqb, List, [], ◌∷◌, ◌++◌, map, length, get_or, take, drop, set, sym, ap, ◌∙◌, subst, inl, inr, arith}
use Rattle.std.proofs.lemmas.List.{append-nil, append_assoc, length-append, length-map, length-drop, length-take-le, get_or-append_right, get_or-drop, get_or-map, get_or_at, get_or-set_same, get_or-set_other, take-append-le, take-take, take_more_set, take-set-le, drop_more, drop_all}
use Rattle.std.proofs.lemmas.Bool.{cases_eq, cond-true, cond-false, eq-eqb, ne_eqb, true≢false, false≢true}
use Rattle.forests.specs.Lists.{In}
use Rattle.forests.specs.Closures.{push, picks}
use Rattle.forests.specs.Labels.{below}
use Rattle.forests.proofs.Members.{in_get_d, place}
use Rattle.forests.proofs.Completion.{picks_within}
use Rattle.forests.proofs.LabelLists.{length_below, get_d_below}
use Rattle.cheapest.specs.Scans.{ring, grown, Fronts, Placed, Completed}
use Rattle.cheapest.proofs.Prefixes.{push_set}

-- the candidates from c on
pub below_from : (n c : ℕ) → c < n → drop c (below n) ≡ c ∷ drop (c + 1) (below n)
below_from n c l = drop_more (below n) c 0 (omega (arith, length_below n)) ∙ ap (λ x. x ∷ drop (c + 1) (below n)) (get_d_below n c l)

pub below_past : (n c : ℕ) → n ≤ c → drop c (below n) ≡ []
below_past n c l = drop_all c (below n) (omega (arith, length_below n))

pub in_below_from : (n c d : ℕ) → In d (drop c (below n)) → (c ≤ d) × (d < n)
in_below_from n c d h =
    let p = place d (drop c (below n)) 0 h in
    let small : c + p.0 < n = omega (arith, p.1, length-drop c (below n), length_below n) in
    let e : c + p.0 ≡ d = sym (get_d_below n (c + p.0) small) ∙ sym (get_or-drop c (below n) p.0 0) ∙ p.2 in
    (omega (arith, e), omega (arith, e))

-- one more candidate of the wanted class at the end of the row
pub placed_more : (start end class : ℕ → ℕ) (n : ℕ) (wanted row : List ℕ) (stack stack' : List (List ℕ)) (p c : ℕ) → p < length row → c < n
    → class c ≡ get_or wanted p 0 → Placed start end class n wanted row stack p → Fronts start end (set row p c) stack' (p + 1)
    → Placed start end class n wanted (set row p c) stack' (p + 1)
placed_more start end class n wanted row stack stack' p c l lc level old new = record {
  fronts = new;
  inside = λ j h. elim (cases_eq j p) [
    | inl e ↦ omega (arith, ap (λ k. get_or (set row p c) k 0) e, get_or-set_same row p c 0 l)
    | inr ne ↦ omega (arith, get_or-set_other row p j c 0 ne, old.inside j (omega arith))
  ];
  classes = λ j h. elim (cases_eq j p) [
    | inl e ↦ ap (λ k. class (get_or (set row p c) k 0)) e ∙ ap (λ d. class d) (get_or-set_same row p c 0 l) ∙ level ∙ ap (λ k. get_or wanted k 0) (sym e)
    | inr ne ↦ ap (λ d. class d) (get_or-set_other row p j c 0 ne) ∙ old.classes j (omega arith)
  ];
}

pub placed_less : (start end class : ℕ → ℕ) (n : ℕ) (wanted row : List ℕ) (stack : List (List ℕ)) (d d' : ℕ) → d' ≤ d
    → Placed start end class n wanted row stack d → Placed start end class n wanted row stack d'
placed_less start end class n wanted row stack d d' l old = record {
  fronts = λ j u h. old.fronts j u (omega (arith, h.0), h.1);
  inside = λ j h. old.inside j (omega arith);
  classes = λ j h. old.classes j (omega arith);
}

module _ (start end : ℕ → ℕ) (n : ℕ) where
  pub grown_skip : (front : List ℕ) (c : ℕ) → c < n → ring start end (push [] front) c ≡ true → grown start end n front c ≡ grown start end n front (c + 1)
  grown_skip front c l t =
      let S = push [] front in
      let rest = drop (c + 1) (below n) in
      ap (λ cs. front ++ picks (ring start end) S cs) (below_from n c l)
      ∙ ap (λ xs. front ++ xs) (cond-true (ring start end S c) (picks (ring start end) S rest) (c ∷ picks (ring start end) (c ∷ S) rest) t)

  -- what is picked is next
  pub grown_pick : (front : List ℕ) (c : ℕ) → c < n → ring start end (push [] front) c ≡ false
      → grown start end n front c ≡ front ++ (c ∷ picks (ring start end) (c ∷ push [] front) (drop (c + 1) (below n)))
  grown_pick front c l f =
      let S = push [] front in
      let rest = drop (c + 1) (below n) in
      ap (λ cs. front ++ picks (ring start end) S cs) (below_from n c l)
      ∙ ap (λ xs. front ++ xs) (cond-false (ring start end S c) (picks (ring start end) S rest) (c ∷ picks (ring start end) (c ∷ S) rest) f)

  pub grown_take : (row : List ℕ) (p c : ℕ) → p < length row → c < n → ring start end (push [] (take p row)) c ≡ false
      → grown start end n (take p row) c ≡ grown start end n (take (p + 1) (set row p c)) (c + 1)
  grown_take row p c lp l f =
      let S = push [] (take p row) in
      let rest = drop (c + 1) (below n) in
      grown_pick (take p row) c l f
      ∙ sym (append_assoc (take p row) (c ∷ []) (picks (ring start end) (c ∷ S) rest))
      ∙ ap (λ xs. xs ++ picks (ring start end) (c ∷ S) rest) (sym (take_more_set row p c lp))
      ∙ ap (λ T. take (p + 1) (set row p c) ++ picks (ring start end) T rest) (sym (push_set row p c lp))

  pub grown_end : (front : List ℕ) (c : ℕ) → n ≤ c → grown start end n front c ≡ front
  grown_end front c l = ap (λ cs. front ++ picks (ring start end) (push [] front) cs) (below_past n c l) ∙ append-nil front

-- The state of a run that began with the first i of row₀, at candidate `first`, and has come to candidate
-- c with p in the row.
pub record Growing (start end class : ℕ → ℕ) (n : ℕ) (wanted row₀ : List ℕ) (i first : ℕ) (row : List ℕ) (stack : List (List ℕ)) (p c : ℕ) : Type 0 where
  pub wide : length row ≡ 64
  pub low : i ≤ p
  pub far : p ≤ length wanted
  pub same : take i row ≡ take i row₀
  pub placed : Placed start end class n wanted row stack p
  pub whole : grown start end n (take i row₀) first ≡ grown start end n (take p row) c

module _ {start end class : ℕ → ℕ} {n : ℕ} {wanted row₀ : List ℕ} {i first : ℕ} {row : List ℕ} {stack : List (List ℕ)} {p c : ℕ}
    (here : Growing start end class n wanted row₀ i first row stack p c) where
  pub growing_skip : c < n → ring start end (push [] (take p row)) c ≡ true → Growing start end class n wanted row₀ i first row stack p (c + 1)
  growing_skip l t = record {
    wide = here.wide;
    low = here.low;
    far = here.far;
    same = here.same;
    placed = here.placed;
    whole = here.whole ∙ grown_skip start end n (take p row) c l t;
  }

  pub growing_take : (row' : List ℕ) (stack' : List (List ℕ)) → p < length wanted → p < 64 → c < n → ring start end (push [] (take p row)) c ≡ false
      → class c ≡ get_or wanted p 0 → row' ≡ set row p c → length row' ≡ 64 → Fronts start end row' stack' (p + 1)
      → Growing start end class n wanted row₀ i first row' stack' (p + 1) (c + 1)
  growing_take row' stack' lp lw l f level e wide fronts =
      let inside : p < length row = omega (arith, here.wide) in
      record {
        wide = wide;
        low = omega (arith, here.low);
        far = omega arith;
        same = ap (take i) e ∙ take-set-le i row p c here.low ∙ here.same;
        placed = subst (λ r. Placed start end class n wanted r stack' (p + 1)) (sym e)
            (placed_more start end class n wanted row stack stack' p c inside l level here.placed (subst (λ r. Fronts start end r stack' (p + 1)) e fronts));
        whole = here.whole ∙ grown_take start end n row p c inside l f ∙ ap (λ r. grown start end n (take (p + 1) r) (c + 1)) (sym e);
      }

  front_length : p ≤ 64 → length (take p row) ≡ p
  front_length l = length-take-le p row (omega (arith, here.wide))

  -- the row is full
  pub growing_found : length wanted ≤ p → p ≤ 64 → take (length wanted) (grown start end n (take i row₀) first) ≡ take (length wanted) row
  growing_found l lw =
      let m = length wanted in
      ap (take m) here.whole
      ∙ take-append-le m (take p row) (picks (ring start end) (push [] (take p row)) (drop c (below n))) (omega (arith, front_length lw))
      ∙ take-take m p row l

  -- the classes are the wanted ones: then this one is, too
  at_place : (Q : List ℕ) → map class Q ≡ wanted → p < length wanted → class (get_or Q p 0) ≡ get_or wanted p 0
  at_place Q e l =
      sym (get_or-map class Q p 0 0 (omega (arith, ap length e, length-map Q class)))
      ∙ ap (λ xs. get_or xs p 0) e

  pub misses_end : n ≤ c → p < length wanted → p ≤ 64 → map class (grown start end n (take i row₀) first) ≡ wanted → ⊥
  misses_end l lp lw e =
      let Q = grown start end n (take i row₀) first in
      omega (arith, ap length e, length-map Q class, ap length here.whole, ap length (grown_end start end n (take p row) c l), front_length lw)

  pub misses_class : c < n → p < length wanted → p ≤ 64 → ring start end (push [] (take p row)) c ≡ false → (class c ≡ get_or wanted p 0 → ⊥)
      → map class (grown start end n (take i row₀) first) ≡ wanted → ⊥
  misses_class l lp lw f other e =
      let Q = grown start end n (take i row₀) first in
      let S = push [] (take p row) in
      let rest = picks (ring start end) (c ∷ S) (drop (c + 1) (below n)) in
      let at : get_or Q p 0 ≡ c = ap (λ xs. get_or xs p 0) (here.whole ∙ grown_pick start end n (take p row) c l f) ∙ get_or_at (take p row) c rest 0 p (front_length lw) in
      other (ap class (sym at) ∙ at_place Q e lp)

  -- classes rise with the candidates
  pub misses_high : ((d : ℕ) → c ≤ d → d < n → class c ≤ class d) → p < length wanted → p ≤ 64 → get_or wanted p 0 < class c
      → map class (grown start end n (take i row₀) first) ≡ wanted → ⊥
  misses_high rise lp lw above e =
      let Q = grown start end n (take i row₀) first in
      let S = push [] (take p row) in
      let more = picks (ring start end) S (drop c (below n)) in
      let d = get_or more (p - p) 0 in
      let none : p - p ≡ 0 = omega arith in
      let long : 0 < length more = omega (arith, ap length e, length-map Q class, ap length here.whole, length-append (take p row) more, front_length lw) in
      let at : get_or Q p 0 ≡ d = ap (λ xs. get_or xs p 0) here.whole ∙ get_or-append_right (take p row) more p p 0 (front_length lw) (omega arith) in
      let place-d = in_below_from n c d (picks_within (ring start end) S (drop c (below n)) d (in_get_d more (p - p) 0 (omega arith))) in
      omega (arith, rise d place-d.0 place-d.1, ap class at, at_place Q e lp)

  -- the run ends, with a row or without
  pub completed : length wanted ≤ p → p ≤ 64 → Completed start end class n wanted row₀ i first row stack true
  completed l lw = record {
    same = here.same;
    placed = placed_less start end class n wanted row stack p i here.low here.placed;
    found = λ _. placed_less start end class n wanted row stack p (length wanted) l here.placed;
    grows = λ _. growing_found l lw;
    misses = λ e. absurd (true≢false e);
  }

  pub given_up : (map class (grown start end n (take i row₀) first) ≡ wanted → ⊥) → Completed start end class n wanted row₀ i first row stack false
  given_up none = record {
    same = here.same;
    placed = placed_less start end class n wanted row stack p i here.low here.placed;
    found = λ e. absurd (false≢true e);
    grows = λ e. absurd (false≢true e);
    misses = λ _. none;
  }

  -- no candidate is left
  pub ended : n ≤ c → length wanted < 64 → Completed start end class n wanted row₀ i first row stack (eqb p (length wanted))
  ended l lw =
      let is = λ (r : Bool). Completed start end class n wanted row₀ i first row stack r in
      elim (cases_eq p (length wanted)) [
        | inl e ↦ subst is (sym (eq-eqb p (length wanted) e)) (completed (omega arith) (omega arith))
        | inr ne ↦ subst is (sym (ne_eqb p (length wanted) ne)) (given_up (misses_end l (omega (arith, here.far)) (omega (arith, here.far))))
      ]
