-- The link that stands in for a link of the row that a walk is on: the first candidate that crosses to the
-- other part of the row without that link, and has its mark.
use Rattle.std.proofs.Common.{◌≡◌, ℕ, ◌+◌, ◌-◌, ◌<◌, ◌≤◌, Bool, true, List, [], map, length, get_or, take, sym, ap, ◌∙◌, subst, inl, inr, arith}
use Rattle.std.proofs.lemmas.List.{length-take-le, get_or-take}
use Rattle.std.proofs.lemmas.Bool.{cases_Bool, cases_lt, cases_eq, cond-false}
use Rattle.forests.specs.Lists.{In}
use Rattle.forests.proofs.Members.{in_get_d}
use Rattle.cheapest.specs.Plans.{mark_of}
use Rattle.cheapest.specs.Positions.{plan_of, is_on, row_of, CheapestIn}
use Rattle.cheapest.specs.Scans.{Fronts, Placed, Matched, Crosses}
use Rattle.cheapest.specs.StandIns.{StandsIn, FirstStandIn}
use Rattle.cheapest.specs.Runs.{row_in}
use Rattle.cheapest.specs.declared.enumeration.Rows.{Rows}
use Rattle.cheapest.specs.Candidates.{start_of, end_of, class_of, number_of}
use Rattle.cheapest.proofs.Listed.{key_of, keys_rise}
use Rattle.cheapest.proofs.Standings.{numbers_front, small_front, row_cheapest}
use Rattle.cheapest.proofs.Stances.{standing, row_on}
use Rattle.cheapest.proofs.Swaps.{leaving, rest_passes, crosses_stands, stands_crosses, left_out}

-- a walk with a link at some place of its row is on it
pub row_place : (rows : Rows) (q e : ℕ) → q < length (row_of rows) → get_or (row_of rows) q 0 ≡ e → (is_on rows ≡ true) × (q < rows.size) × (get_or rows.row q 0 ≡ e)
row_place rows q e l is = elim (cases_Bool rows.on) [
  | inl on ↦
      let r = row_on rows on in
      let k : q < rows.size = omega (arith, ap length r, length-take-le rows.size rows.row (omega (arith, rows.small, rows.widerow))) in
      (on, k, sym (get_or-take rows.size rows.row q 0 k) ∙ ap (λ xs. get_or xs q 0) (sym r) ∙ is)
  | inr off ↦ absurd (omega (arith, ap length (cond-false rows.on (take rows.size rows.row) [] off)))
]

module _ (rows : Rows) (on : is_on rows ≡ true) (q : ℕ) (ql : q < rows.size) (rest : List ℕ) (wide : length rest ≡ 64)
    (before : (j d : ℕ) → j < q → get_or rest j d ≡ get_or rows.row j d)
    (after : (j d : ℕ) → q ≤ j → j < q + (length rows.row - (q + 1)) → get_or rest j d ≡ get_or rows.row (q + 1 + (j - q)) d)
    {at : List ℕ} {stack : List (List ℕ)} {r : Bool} (wide_at : length at ≡ 64)
    (found : Matched (start_of rows.list) (end_of rows.list) (number_of rows.list) rows.list.count (take (rows.size - 1 - 0) rest) at stack r) where
  here : q < length (take rows.size rows.row)
  here = omega (arith, length-take-le rows.size rows.row (omega (arith, rows.small, rows.widerow)))

  cheapest : CheapestIn (plan_of rows) (take rows.size rows.row)
  cheapest = row_cheapest (standing rows) (rows.joins on)

  rest_is : take (rows.size - 1) rest ≡ leaving q (take rows.size rows.row)
  rest_is = left_out rows.size q rows.row rest ql rows.small rows.widerow wide (λ j l. before j 0 l)
      (λ j h. after j 0 h.0 (omega (arith, rows.widerow, h.1)) ∙ ap (λ (k : ℕ). get_or rows.row k 0) (omega (arith, h.0)))

  matched : Matched (start_of rows.list) (end_of rows.list) (number_of rows.list) rows.list.count (take (rows.size - 1) rest) at stack r
  matched = subst (λ (n : ℕ). Matched (start_of rows.list) (end_of rows.list) (number_of rows.list) rows.list.count (take n rest) at stack r) (omega arith) found

  placed : Placed (start_of rows.list) (end_of rows.list) (number_of rows.list) rows.list.count (take (rows.size - 1) rest) at stack (rows.size - 1)
  placed =
      subst (Placed (start_of rows.list) (end_of rows.list) (number_of rows.list) rows.list.count (take (rows.size - 1) rest) at stack)
      (length-take-le (rows.size - 1) rest (omega (arith, rows.small)))
      (matched.placed (matched.answers ∙ ap (row_in rows.list) rest_is ∙ rest_passes rows.list (take rows.size rows.row) cheapest q here))

  pub rest_fronts : Fronts (start_of rows.list) (end_of rows.list) at stack (rows.size - 1)
  rest_fronts = placed.fronts

  shown : map (number_of rows.list) (take (rows.size - 1) at) ≡ leaving q (take rows.size rows.row)
  shown = numbers_front rows.list at (rows.size - 1) (omega (arith, rows.small)) placed.inside rest (omega (arith, rows.small))
      (λ j l. placed.classes j l ∙ get_or-take (rows.size - 1) rest j 0 l) ∙ rest_is

  small : (c : ℕ) → In c (take (rows.size - 1) at) → c < rows.list.count
  small = small_front rows.list at (rows.size - 1) (omega (arith, rows.small)) placed.inside

  module _ (e : ℕ) (is : get_or rows.row q 0 ≡ e) where
    at_q : get_or (take rows.size rows.row) q 0 ≡ e
    at_q = get_or-take rows.size rows.row q 0 ql ∙ is

    mark : mark_of (plan_of rows) e ≡ get_or rows.wanted q 0
    mark = ap (mark_of (plan_of rows)) (sym is ∙ sym (rows.shows q ql)) ∙ sym (rows.list.classes (get_or rows.walk.at q 0) (rows.inside q ql)) ∙ rows.levels q ql

    -- what stands in is a candidate that crosses
    crossing : (h : ℕ) → StandsIn (plan_of rows) (row_of rows) e h
        → (c : ℕ) × (c < rows.list.count) × (number_of rows.list c ≡ h)
        × Crosses (start_of rows.list) (end_of rows.list) (class_of rows.list) (number_of rows.list) (take (rows.size - 1) at) e (get_or rows.wanted q 0) c
    crossing h s = stands_crosses rows.list (take rows.size rows.row) cheapest q here (take (rows.size - 1) at) small shown e (get_or rows.wanted q 0) at_q mark
        h (subst (λ xs. StandsIn (plan_of rows) xs e h) (row_on rows on) s)

    pub none_stands : ((d : ℕ) → d < rows.list.count
        → Crosses (start_of rows.list) (end_of rows.list) (class_of rows.list) (number_of rows.list) (take (rows.size - 1) at) e (get_or rows.wanted q 0) d → ⊥)
        → (h : ℕ) → StandsIn (plan_of rows) (row_of rows) e h → ⊥
    none_stands none h s = let x = crossing h s in none x.0 x.1 x.3

    module _ (c : ℕ) (none : (d : ℕ) → d < c
        → Crosses (start_of rows.list) (end_of rows.list) (class_of rows.list) (number_of rows.list) (take (rows.size - 1) at) e (get_or rows.wanted q 0) d → ⊥) where
      pub first_stands : (l : c < rows.list.count)
          → Crosses (start_of rows.list) (end_of rows.list) (class_of rows.list) (number_of rows.list) (take (rows.size - 1) at) e (get_or rows.wanted q 0) c
          → FirstStandIn (plan_of rows) (row_of rows) e (number_of rows.list c)
      first_stands l crosses =
          let key = key_of (plan_of rows) in
          let r = take rows.size rows.row in
          record {
            chosen = subst (λ xs. In e xs) (sym (row_on rows on)) (subst (λ z. In z r) at_q (in_get_d r q 0 here));
            stands = subst (λ xs. StandsIn (plan_of rows) xs e (number_of rows.list c)) (sym (row_on rows on))
                (crosses_stands rows.list r cheapest q here (take (rows.size - 1) at) small shown e (get_or rows.wanted q 0) at_q mark c l crosses);
            lowest = λ h s.
                let x = crossing h s in
                elim (cases_lt x.0 c) [
                  | inl less ↦ absurd (none x.0 less x.3)
                  | inr more ↦ elim (cases_eq c x.0) [
                    | inl same ↦ omega (arith, ap (λ k. key (number_of rows.list k)) same, ap key x.2)
                    | inr ne ↦ omega (arith, keys_rise rows.list c x.0 (omega arith) x.1, ap key x.2)
                  ]
                ];
          }
