-- A walk through the full list, and what its steps owe: the facts that it keeps, and the promise of a step
-- or of a stop from what was found.
use Rattle.std.proofs.Common.{◌≡◌, ℕ, ◌+◌, ◌<◌, Bool, true, false, List, [], map, length, get_or, take, Decides, sym, ap, ◌∙◌, subst, arith}
use Rattle.std.proofs.lemmas.List.{ext_get_or, length-map, length-take-le, get_or-map, get_or-take}
use Rattle.std.proofs.lemmas.Bool.{both_ways, cond-true, false≢true}
use Rattle.weights.specs.Amounts.{numbers}
use Rattle.forests.proofs.Members.{in_get_d}
use Rattle.cheapest.specs.Trees.{Follows, NoneFollows}
use Rattle.cheapest.specs.Plans.{graph_of, mark_of, first_of}
use Rattle.cheapest.specs.Positions.{plan_of, is_on, row_of, CheapestIn, Begins, Steps, Stops}
use Rattle.cheapest.specs.Scans.{Fronts, Filled}
use Rattle.cheapest.specs.Runs.{row_in}
use Rattle.cheapest.specs.declared.candidates.Candidates.{Candidates}
use Rattle.cheapest.specs.declared.enumeration.Rows.{Rows}
use Rattle.cheapest.specs.Candidates.{start_of, end_of, class_of, number_of}
use Rattle.cheapest.proofs.Belonging.{filled_marks, filled_size}
use Rattle.cheapest.proofs.Joining.{tree_size, first_begins}
use Rattle.cheapest.proofs.RowTests.{passes_cheapest, cheapest_passes}
use Rattle.cheapest.proofs.Standings.{Standing, first_standing, first_at}

pub standing : (rows : Rows) → Standing rows.list rows.walk.at rows.walk.labels rows.size rows.wanted rows.row
standing rows = record {
  small = rows.small;
  wide_at = rows.walk.wide;
  wide_wanted = rows.widewanted;
  wide_row = rows.widerow;
  whole = rows.whole;
  wants = rows.wants;
  inside = rows.inside;
  levels = rows.levels;
  shows = rows.shows;
  fronts = rows.fronts;
  passing = rows.passes;
}

-- before the list it stands on the first row already
abbrev pub AtFirst : Candidates → ℕ → List ℕ → Bool → Type 0
AtFirst list size row on = (j : ℕ) → (on ≡ false) × (j < size) → get_or row j 0 ≡ get_or (first_of list.plan) j 0

abbrev pub IsJoined : Candidates → ℕ → Bool → Type 0
IsJoined list size on = on ≡ true → size + 1 ≡ list.plan.sites

-- the facts that a walk keeps, in the order of its fields
abbrev pub Owed : Candidates → List ℕ → List (List ℕ) → ℕ → List ℕ → List ℕ → Bool → Type 0
Owed list at stack size wanted row on = record {
  small : size < 64;
  widewanted : length wanted ≡ 64;
  widerow : length row ≡ 64;
  whole : size ≡ length (first_of list.plan);
  wants : (j : ℕ) → j < size → get_or wanted j 0 ≡ mark_of list.plan (get_or (first_of list.plan) j 0);
  inside : (j : ℕ) → j < size → get_or at j 0 < list.count;
  levels : (j : ℕ) → j < size → class_of list (get_or at j 0) ≡ get_or wanted j 0;
  shows : (j : ℕ) → j < size → number_of list (get_or at j 0) ≡ get_or row j 0;
  fronts : Fronts (start_of list) (end_of list) at stack size;
  passes : row_in list (take size row) ≡ true;
  begins : AtFirst list size row on;
  joins : IsJoined list size on;
}

pub owed : {list : Candidates} {at : List ℕ} {stack : List (List ℕ)} {size : ℕ} {wanted row : List ℕ} {on : Bool}
    → Standing list at stack size wanted row → AtFirst list size row on → IsJoined list size on → Owed list at stack size wanted row on
owed s begins joins =
    record {
      small = s.small;
      widewanted = s.wide_wanted;
      widerow = s.wide_row;
      whole = s.whole;
      wants = s.wants;
      inside = s.inside;
      levels = s.levels;
      shows = s.shows;
      fronts = s.fronts;
      passes = s.passing;
      begins = begins;
      joins = joins;
    }

-- a walk that stands before the list, with the first row filled in
pub first_owed : (list : Candidates) {at : List ℕ} {stack : List (List ℕ)} {size : ℕ} → Filled (start_of list) (end_of list) list.count [] at stack size
    → length at ≡ 64 → (wanted row : List ℕ) → length wanted ≡ 64 → length row ≡ 64
    → ((j : ℕ) → j < size → get_or wanted j 0 ≡ class_of list (get_or at j 0))
    → ((j : ℕ) → j < size → get_or row j 0 ≡ number_of list (get_or at j 0)) → Owed list at stack size wanted row false
first_owed list filled wide wanted row wide_wanted wide_row classes links =
    owed (first_standing list filled wide wanted row wide_wanted wide_row classes links)
    (λ j h. first_at list filled wide wanted row wide_wanted wide_row classes links j h.1) (λ e. absurd (false≢true e))

-- a walk that was put back before the list: its size and its marks are those of the first row still
module _ (rows : Rows) {at : List ℕ} {stack : List (List ℕ)} {n : ℕ} (filled : Filled (start_of rows.list) (end_of rows.list) rows.list.count [] at stack n)
    (wide : length at ≡ 64) where
  pub again_size : n ≡ rows.size
  again_size = filled_size rows.list wide filled ∙ sym rows.whole

  pub again_owed : (row : List ℕ) → length row ≡ 64 → ((j : ℕ) → j < rows.size → get_or row j 0 ≡ number_of rows.list (get_or at j 0))
      → Owed rows.list at stack rows.size rows.wanted row false
  again_owed row wide_row links =
      let list = rows.list in
      let w = mark_of list.plan in
      let f = first_of list.plan in
      let first : Filled (start_of list) (end_of list) list.count [] at stack rows.size =
      subst (Filled (start_of list) (end_of list) list.count [] at stack) again_size filled in
      let long : length (take rows.size at) ≡ rows.size = length-take-le rows.size at (omega (arith, rows.small, wide)) in
      first_owed list first wide rows.wanted row rows.widewanted wide_row
      (λ j l.
      rows.wants j l ∙ sym (get_or-map w f j 0 0 (omega (arith, rows.whole)))
      ∙ ap (λ xs. get_or xs j 0) (sym (filled_marks list first)) ∙ get_or-map (class_of list) (take rows.size at) j 0 0 (omega (arith, long))
      ∙ ap (class_of list) (get_or-take rows.size at j 0 l))
      links

module _ (rows : Rows) where
  pub row_on : is_on rows ≡ true → row_of rows ≡ take rows.size rows.row
  row_on e = cond-true rows.on (take rows.size rows.row) [] e

  pub row_first : is_on rows ≡ false → take rows.size rows.row ≡ first_of (plan_of rows)
  row_first e =
      let size : length (take rows.size rows.row) ≡ rows.size = length-take-le rows.size rows.row (omega (arith, rows.small, rows.widerow)) in
      ext_get_or 0 (take rows.size rows.row) (first_of (plan_of rows)) (size ∙ rows.whole)
      (λ j l. let k : j < rows.size = omega (arith, size) in get_or-take rows.size rows.row j 0 k ∙ rows.begins j (e, k))

  pub stops_row : is_on rows ≡ true → NoneFollows (graph_of (plan_of rows)) numbers (mark_of (plan_of rows)) (take rows.size rows.row) → Stops rows
  stops_row on none = record {
    no_tree = λ e. absurd (both_ways (is_on rows) e on);
    not_joined = λ e. absurd (both_ways (is_on rows) e on);
    no_row = λ _. subst (NoneFollows (graph_of (plan_of rows)) numbers (mark_of (plan_of rows))) (sym (row_on on)) none;
  }

module _ (before after : Rows) (on : is_on after ≡ true) where
  pub steps_begin : is_on before ≡ false → before.size + 1 ≡ (plan_of before).sites → take after.size after.row ≡ take before.size before.row → Steps before after
  steps_begin off joined same = record {
    on = on;
    begins = λ _. subst (Begins (plan_of before)) (sym (row_on after on ∙ same ∙ row_first before off)) (first_begins (plan_of before) (omega (arith, before.whole)));
    follows = λ e. absurd (both_ways (is_on before) off e);
  }

  pub steps_follow : is_on before ≡ true
      → Follows (graph_of (plan_of before)) numbers (mark_of (plan_of before)) (take before.size before.row) (take after.size after.row) → Steps before after
  steps_follow was next = record {
    on = on;
    begins = λ e. absurd (both_ways (is_on before) e was);
    follows = λ _.
        subst (λ r. Follows (graph_of (plan_of before)) numbers (mark_of (plan_of before)) r (row_of after)) (sym (row_on before was))
        (subst (Follows (graph_of (plan_of before)) numbers (mark_of (plan_of before)) (take before.size before.row)) (sym (row_on after on)) next);
  }

-- a test that says no, of what cannot be
pub refused : {P : Type 0} → (P → ⊥) → Decides false P
refused none = ((λ e. absurd (false≢true e)), (λ p. absurd (none p)))

-- What is known of a row of the full list.
module _ (rows : Rows) (r : List ℕ) (c : CheapestIn (plan_of rows) r) where
  pub listed_joined : rows.size + 1 ≡ (plan_of rows).sites
  listed_joined = omega (arith, rows.whole, tree_size (plan_of rows) (r, c.row.tree))

  pub listed_size : length r ≡ rows.size
  listed_size = omega (arith, listed_joined, c.row.tree.size)

  pub listed_bound : (j : ℕ) → j < length r → get_or r j 0 < 512
  listed_bound j l = omega (arith, (plan_of rows).room, (c.row.tree.allowed (get_or r j 0) (in_get_d r j 0 l)).0)

  pub listed_marks : (j : ℕ) → j < length r → mark_of (plan_of rows) (get_or r j 0) ≡ get_or rows.wanted j 0
  listed_marks j l =
      let w = mark_of (plan_of rows) in
      let f = first_of (plan_of rows) in
      sym (get_or-map w r j 0 0 l) ∙ ap (λ xs. get_or xs j 0) (cheapest_passes rows.list r c).1
      ∙ get_or-map w f j 0 0 (omega (arith, rows.whole, listed_size)) ∙ sym (rows.wants j (omega (arith, listed_size)))

  pub listed_passes : row_in rows.list r ≡ true
  listed_passes = (cheapest_passes rows.list r c).0

-- and the other way round
pub passing_listed : (rows : Rows) (r : List ℕ) → rows.size + 1 ≡ (plan_of rows).sites → length r ≡ rows.size
    → ((j : ℕ) → j < length r → mark_of (plan_of rows) (get_or r j 0) ≡ get_or rows.wanted j 0) → row_in rows.list r ≡ true → CheapestIn (plan_of rows) r
passing_listed rows r joined size marks ok =
    let w = mark_of (plan_of rows) in
    let f = first_of (plan_of rows) in
    passes_cheapest rows.list (omega (arith, rows.whole)) r ok
    (ext_get_or 0 (map w r) (map w f) (omega (arith, length-map r w, length-map f w, rows.whole))
    (λ j l. let k : j < length r = omega (arith, length-map r w) in
    get_or-map w r j 0 0 k ∙ marks j k ∙ rows.wants j (omega arith) ∙ sym (get_or-map w f j 0 0 (omega (arith, rows.whole)))))
