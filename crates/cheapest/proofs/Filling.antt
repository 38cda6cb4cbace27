-- The first row: a run over all candidates gives the greedy completion. It has fewer links than there are
-- sites, since each link makes one component less and one is always left.
use Rattle.std.proofs.Common.{◌≡◌, ℕ, ◌+◌, ◌<◌, ◌≤◌, true, false, eqb, List, [], ◌∷◌, length, take, drop, set, sym, refl, ap, ◌∙◌, subst, inl, inr, arith}
use Rattle.std.proofs.lemmas.List.{length-append, length-take-le}
use Rattle.std.proofs.lemmas.Bool.{eq-eqb, true≢false}
use Rattle.forests.specs.Closures.{Indep, push, picks}
use Rattle.forests.specs.Graphs.{Spans, Inside}
use Rattle.forests.specs.Labels.{find, below}
use Rattle.forests.proofs.Members.{in_parts, length_push}
use Rattle.forests.proofs.Counting.{count_lt}
use Rattle.forests.proofs.Labelling.{chains, label_twice}
use Rattle.forests.proofs.Size.{label_inside, roots_forest}
use Rattle.forests.proofs.Completion.{picks_within, picks_indep}
use Rattle.cheapest.specs.Scans.{ring, grown, Fronts, Placed, Filled}
use Rattle.cheapest.proofs.Sorting.{below_in}
use Rattle.cheapest.proofs.Growth.{placed_more, grown_skip, grown_pick, grown_take, grown_end}

-- a forest has fewer links than there are sites
pub forest_short : (from to : ℕ → ℕ) (n : ℕ) (S : List ℕ) → 0 < n → Inside from to n S → Indep (Spans from to) S → length S < n
forest_short from to n S some inside indep =
    let r = find from to S 0 in
    omega (
      arith,
      roots_forest from to n S inside indep,
      count_lt (λ _. false) (λ u. eqb (find from to S u) u) n r (λ u l h. absurd (true≢false (sym h)))
          (label_inside from to n S inside 0 some) refl (eq-eqb (find from to S r) r (label_twice from to S 0)),
    )

module _ (start end : ℕ → ℕ) (n : ℕ) (fits : (c : ℕ) → c < n → (start c < 64) × (end c < 64)) where
  pub picks_short : length (picks (ring start end) [] (below n)) < 64
  picks_short =
      let from = start in
      let to = end in
      let Q = picks (ring start end) [] (below n) in
      omega (
        arith,
        length_push [] Q,
        forest_short from to 64 (push [] Q) (omega arith)
            (λ c m. elim (in_parts c Q [] m) [ inl a ↦ fits c (below_in n c (picks_within (ring start end) [] (below n) c a)) | inr b ↦ absurd b ])
            (picks_indep (Spans from to) (ring start end) (chains from to) [] (below n) tt),
      )

-- The state of that run, at candidate c with p in the row.
pub record Filling (start end : ℕ → ℕ) (n : ℕ) (front row : List ℕ) (stack : List (List ℕ)) (p c : ℕ) : Type 0 where
  pub wide : length row ≡ 64
  pub few : p < 64
  pub placed : Placed start end (λ _. 0) n [] row stack p
  pub short : length (grown start end n front 0) < 64
  pub whole : grown start end n front 0 ≡ grown start end n (take p row) c

module _ {start end : ℕ → ℕ} {n : ℕ} {front row : List ℕ} {stack : List (List ℕ)} {p c : ℕ} (here : Filling start end n front row stack p c) where
  pub filling_skip : c < n → ring start end (push [] (take p row)) c ≡ true → Filling start end n front row stack p (c + 1)
  filling_skip l t = record {
    wide = here.wide;
    few = here.few;
    placed = here.placed;
    short = here.short;
    whole = here.whole ∙ grown_skip start end n (take p row) c l t;
  }

  -- there is room for one more
  pub filling_room : c < n → ring start end (push [] (take p row)) c ≡ false → p + 1 < 64
  filling_room l f =
      let S = push [] (take p row) in
      let rest = picks (ring start end) (c ∷ S) (drop (c + 1) (below n)) in
      omega (
        arith,
        here.short,
        ap length (here.whole ∙ grown_pick start end n (take p row) c l f),
        length-append (take p row) (c ∷ rest),
        length-take-le p row (omega (arith, here.few, here.wide)),
      )

  pub filling_take : (row' : List ℕ) (stack' : List (List ℕ)) → c < n → ring start end (push [] (take p row)) c ≡ false
      → row' ≡ set row p c → length row' ≡ 64 → Fronts start end row' stack' (p + 1) → Filling start end n front row' stack' (p + 1) (c + 1)
  filling_take row' stack' l f e wide fronts =
      let inside : p < length row = omega (arith, here.few, here.wide) in
      record {
        wide = wide;
        few = filling_room l f;
        placed = subst (λ r. Placed start end (λ _. 0) n [] r stack' (p + 1)) (sym e)
            (placed_more start end (λ _. 0) n [] row stack stack' p c inside l refl here.placed (subst (λ r. Fronts start end r stack' (p + 1)) e fronts));
        short = here.short;
        whole = here.whole ∙ grown_take start end n row p c inside l f ∙ ap (λ r. grown start end n (take (p + 1) r) (c + 1)) (sym e);
      }

  pub filled : n ≤ c → Filled start end n front row stack p
  filled l = record {
    few = here.few;
    whole = sym (here.whole ∙ grown_end start end n (take p row) c l);
    fronts = here.placed.fronts;
    inside = here.placed.inside;
  }
