-- A walk that stands on a row, as the code keeps it: the row in candidates and in links, the labels of its
-- prefixes, the marks that are wanted. What it stands on is the row of a cheapest tree if there is one; a
-- search that found the next row of the wanted marks stands on the row that follows, and a search that
-- found none shows that none follows.
use Rattle.std.proofs.Common.{◌≡◌, ℕ, ◌+◌, ◌<◌, ◌≤◌, true, List, [], ◌∷◌, ◌++◌, map, length, get_or, take, drop, sym, refl, ap, ◌∙◌, subst, inl, inr, arith, Bool}
use Rattle.std.proofs.lemmas.List.{ext_get_or, get_or_append_left, length-append, length-drop, length-map, length-take-le, get_or-map, get_or-take, take-take, take_all}
use Rattle.std.proofs.lemmas.Bool.{cases_lt}
use Rattle.weights.specs.Amounts.{numbers}
use Rattle.forests.specs.Lists.{In}
use Rattle.forests.specs.Closures.{push, picks}
use Rattle.forests.specs.Labels.{below}
use Rattle.forests.proofs.Members.{in_either, place}
use Rattle.forests.proofs.Completion.{picks_within}
use Rattle.cheapest.specs.Completions.{departs, Good}
use Rattle.cheapest.specs.Trees.{Cheapest, Follows, NoneFollows}
use Rattle.cheapest.specs.Plans.{graph_of, mark_of, first_of}
use Rattle.cheapest.specs.Scans.{ring, grown, departed, Fronts, Placed, Departs, Matched, Filled}
use Rattle.cheapest.specs.Runs.{row_in}
use Rattle.cheapest.specs.declared.candidates.Candidates.{Candidates}
use Rattle.cheapest.specs.Candidates.{start_of, end_of, class_of, number_of}
use Rattle.cheapest.proofs.Bases.{no_longer}
use Rattle.cheapest.proofs.Departures.{departure_free, departure_within}
use Rattle.cheapest.proofs.TreeRows.{graph_setting, graph_proper}
use Rattle.cheapest.proofs.Theorems.{successor}
use Rattle.cheapest.proofs.Growth.{in_below_from}
use Rattle.cheapest.proofs.Numbers.{numbers_lawful}
use Rattle.cheapest.proofs.Listed.{key_of, plan_fits}
use Rattle.cheapest.proofs.Translation.{first_same, departs_same}
use Rattle.cheapest.proofs.RowTests.{passes_best, best_passes, first_best, passes_cheapest, cheapest_passes}

pub record Standing (list : Candidates) (at : List ℕ) (stack : List (List ℕ)) (size : ℕ) (wanted row : List ℕ) : Type 0 where
  pub small : size < 64
  pub wide_at : length at ≡ 64
  pub wide_wanted : length wanted ≡ 64
  pub wide_row : length row ≡ 64
  pub whole : size ≡ length (first_of list.plan)
  pub wants : (j : ℕ) → j < size → get_or wanted j 0 ≡ mark_of list.plan (get_or (first_of list.plan) j 0)
  pub inside : (j : ℕ) → j < size → get_or at j 0 < list.count
  pub levels : (j : ℕ) → j < size → class_of list (get_or at j 0) ≡ get_or wanted j 0
  pub shows : (j : ℕ) → j < size → number_of list (get_or at j 0) ≡ get_or row j 0
  pub fronts : Fronts (start_of list) (end_of list) at stack size
  pub passing : row_in list (take size row) ≡ true

-- two fronts of lists, place by place
pub same_fronts : (n : ℕ) (xs ys : List ℕ) → n ≤ length xs → length ys ≡ n → ((j : ℕ) → j < n → get_or xs j 0 ≡ get_or ys j 0) → take n xs ≡ ys
same_fronts n xs ys l e h =
    let size : length (take n xs) ≡ n = length-take-le n xs l in
    ext_get_or 0 (take n xs) ys (size ∙ sym e) (λ j k. let less : j < n = omega (arith, size) in get_or-take n xs j 0 less ∙ h j less)

module _ (list : Candidates) (at : List ℕ) (n : ℕ) (wide : n ≤ length at) (inside : (j : ℕ) → j < n → get_or at j 0 < list.count) where
  pub small_front : (c : ℕ) → In c (take n at) → c < list.count
  small_front c m =
      let p = place c (take n at) 0 m in
      let l : p.0 < n = omega (arith, p.1, length-take-le n at wide) in
      omega (arith, p.2, get_or-take n at p.0 0 l, inside p.0 l)

  pub numbers_front : (row : List ℕ) → n ≤ length row → ((j : ℕ) → j < n → number_of list (get_or at j 0) ≡ get_or row j 0)
      → map (number_of list) (take n at) ≡ take n row
  numbers_front row l h =
      let f = number_of list in
      let size : length (take n at) ≡ n = length-take-le n at wide in
      sym (same_fronts n row (map f (take n at)) l (length-map (take n at) f ∙ size)
      (λ j k. sym (get_or-map f (take n at) j 0 0 (omega (arith, size)) ∙ ap f (get_or-take n at j 0 k) ∙ h j k)))

-- classes of candidates are marks of links
pub classes_marks : (list : Candidates) (xs : List ℕ) → ((c : ℕ) → In c xs → c < list.count)
    → map (class_of list) xs ≡ map (mark_of list.plan) (map (number_of list) xs)
classes_marks list [] h = refl
classes_marks list (c ∷ cs) h =
    ap (λ x. x ∷ map (class_of list) cs) (list.classes c (h c (inl refl)))
    ∙ ap (λ ys. mark_of list.plan (number_of list c) ∷ ys) (classes_marks list cs (λ d m. h d (inr m)))

module _ {list : Candidates} {at : List ℕ} {stack : List (List ℕ)} {size : ℕ} {wanted row : List ℕ} (here : Standing list at stack size wanted row) where
  row_shown : map (number_of list) (take size at) ≡ take size row
  row_shown = numbers_front list at size (omega (arith, here.small, here.wide_at)) here.inside row (omega (arith, here.small, here.wide_row)) here.shows

  pub marks_first : map (mark_of list.plan) (first_of list.plan) ≡ take size wanted
  marks_first =
      let w = mark_of list.plan in
      let f = first_of list.plan in
      sym (same_fronts size wanted (map w f) (omega (arith, here.small, here.wide_wanted)) (length-map f w ∙ sym here.whole)
      (λ j l. here.wants j l ∙ sym (get_or-map w f j 0 0 (omega (arith, here.whole)))))

  -- the row has the wanted marks
  row_wanted : map (mark_of list.plan) (take size row) ≡ take size wanted
  row_wanted =
      let w = mark_of list.plan in
      let r = take size row in
      let long : length r ≡ size = length-take-le size row (omega (arith, here.small, here.wide_row)) in
      sym (same_fronts size wanted (map w r) (omega (arith, here.small, here.wide_wanted)) (length-map r w ∙ long)
      (λ j l. sym (here.levels j l) ∙ list.classes (get_or at j 0) (here.inside j l)
      ∙ ap w (here.shows j l ∙ sym (get_or-take size row j 0 l)) ∙ sym (get_or-map w r j 0 0 (omega (arith, long)))))

  pub row_level : map (mark_of list.plan) (take size row) ≡ map (mark_of list.plan) (first_of list.plan)
  row_level = row_wanted ∙ sym marks_first

  -- so have its candidates
  pub classes_first : map (class_of list) (take size at) ≡ map (mark_of list.plan) (first_of list.plan)
  classes_first =
      classes_marks list (take size at) (small_front list at size (omega (arith, here.small, here.wide_at)) here.inside)
      ∙ ap (map (mark_of list.plan)) row_shown ∙ row_level

  pub row_cheapest : size + 1 ≡ list.plan.sites → Cheapest (graph_of list.plan) numbers (mark_of list.plan) (take size row)
  row_cheapest joined = passes_cheapest list (omega (arith, here.whole)) (take size row) here.passing row_level

  departed_front : (j : ℕ) → j < size
      → departed (start_of list) (end_of list) list.count (take size at) j ≡ departed (start_of list) (end_of list) list.count at j
  departed_front j l =
      ap (λ xs. grown (start_of list) (end_of list) list.count xs (get_or (take size at) j 0 + 1)) (take-take j size at (omega arith))
      ∙ ap (λ c. grown (start_of list) (end_of list) list.count (take j at) (c + 1)) (get_or-take size at j 0 l)

  departed_small : (j : ℕ) → j < size → (c : ℕ) → In c (departed (start_of list) (end_of list) list.count at j) → c < list.count
  departed_small j l c m =
      let rest = drop (get_or at j 0 + 1) (below list.count) in
      let S = push [] (take j at) in
      elim (in_either c (take j at) (picks (ring (start_of list) (end_of list)) S rest) m) [
        | inl a ↦ small_front list at j (omega (arith, here.small, here.wide_at)) (λ k h. here.inside k (omega arith)) c a
        | inr b ↦ (in_below_from list.count (get_or at j 0 + 1) c (picks_within (ring (start_of list) (end_of list)) S rest c b)).1
      ]

  -- the departures of the row, in candidates and in links
  departs_shown : (j : ℕ) → j < size
      → departs (graph_of list.plan) numbers (mark_of list.plan) (take size row) j ≡ map (number_of list) (departed (start_of list) (end_of list) list.count at j)
  departs_shown j l =
      let long : length (take size at) ≡ size = length-take-le size at (omega (arith, here.small, here.wide_at)) in
      ap (λ r. departs (graph_of list.plan) numbers (mark_of list.plan) r j) (sym row_shown)
      ∙ departs_same list (take size at) j (omega (arith, long)) (small_front list at size (omega (arith, here.small, here.wide_at)) here.inside)
      ∙ ap (map (number_of list)) (departed_front j l)

  marks_departed : (j : ℕ) → j < size
      → map (class_of list) (departed (start_of list) (end_of list) list.count at j) ≡ map (mark_of list.plan) (departs (graph_of list.plan) numbers (mark_of list.plan) (take size row) j)
  marks_departed j l =
      classes_marks list (departed (start_of list) (end_of list) list.count at j) (departed_small j l)
      ∙ ap (map (mark_of list.plan)) (sym (departs_shown j l))

  -- a departure is no longer than the row
  departed_short : (j : ℕ) → j < size → length (departed (start_of list) (end_of list) list.count at j) ≤ size
  departed_short j l =
      let p = list.plan in
      let G = graph_setting (graph_of p) (key_of p) [] in
      let ok = graph_proper (graph_of p) numbers numbers_lawful (mark_of p) [] tt in
      let b = (passes_best list (take size row) here.passing row_level).base in
      let long : length (take size row) ≡ size = length-take-le size row (omega (arith, here.small, here.wide_row)) in
      let k : j < length (take size row) = omega (arith, long) in
      let Q = departed (start_of list) (end_of list) list.count at j in
      omega (
        arith,
        here.whole,
        no_longer G ok (departs (graph_of p) numbers (mark_of p) (take size row) j)
            (departure_free G ok (take size row) j b.rises b.within b.free k) (departure_within G ok (take size row) j b.rises b.within b.free k),
        ap length (departs_shown j l),
        length-map Q (number_of list),
      )

  module _ (goal : List ℕ) (aim : goal ≡ take size wanted) where
    goal_length : length goal ≡ size
    goal_length = ap length aim ∙ length-take-le size wanted (omega (arith, here.small, here.wide_wanted))

    row_goal : map (mark_of list.plan) (take size row) ≡ goal
    row_goal = row_wanted ∙ sym aim

    -- a departure that misses the wanted classes is not good
    not_good : (j : ℕ) → j < size → (map (class_of list) (departed (start_of list) (end_of list) list.count at j) ≡ goal → ⊥)
        → Good (graph_of list.plan) numbers (mark_of list.plan) (take size row) j → ⊥
    not_good j l none good = none (marks_departed j l ∙ good ∙ row_goal)

    pub none_follows : ((j : ℕ) → j < length goal → map (class_of list) (departed (start_of list) (end_of list) list.count at j) ≡ goal → ⊥)
        → size + 1 ≡ list.plan.sites → NoneFollows (graph_of list.plan) numbers (mark_of list.plan) (take size row)
    none_follows none joined =
        let long : length (take size row) ≡ size = length-take-le size row (omega (arith, here.small, here.wide_row)) in
        (successor numbers numbers_lawful (graph_of list.plan) (plan_fits list.plan) (mark_of list.plan) (take size row) (row_cheapest joined)).1
        (λ j l. let k : j < size = omega (arith, long) in not_good j k (none j (omega (arith, goal_length))))

    -- the search stands on the departure at place i
    module _ {at' : List ℕ} {stack' : List (List ℕ)} {i : ℕ} (moved : Departs (start_of list) (end_of list) (class_of list) list.count goal at at' stack' i)
        (wide' : length at' ≡ 64) where
      i_small : i < size
      i_small = omega (arith, moved.inside, goal_length)

      departed_is : departed (start_of list) (end_of list) list.count at i ≡ take size at'
      departed_is =
          let Q = departed (start_of list) (end_of list) list.count at i in
          sym (take_all size Q (departed_short i i_small))
          ∙ subst (λ m. take m Q ≡ take m at') goal_length moved.grows

      found_placed : Placed (start_of list) (end_of list) (class_of list) list.count goal at' stack' size
      found_placed = subst (λ m. Placed (start_of list) (end_of list) (class_of list) list.count goal at' stack' m) goal_length moved.placed

      found_good : Good (graph_of list.plan) numbers (mark_of list.plan) (take size row) i
      found_good =
          let f = class_of list in
          let long : length (take size at') ≡ size = length-take-le size at' (omega (arith, here.small)) in
          sym (marks_departed i i_small) ∙ ap (map f) departed_is
          ∙ ext_get_or 0 (map f (take size at')) goal (length-map (take size at') f ∙ long ∙ sym goal_length)
          (λ j l. let k : j < size = omega (arith, length-map (take size at') f, long) in
          get_or-map f (take size at') j 0 0 (omega (arith, long)) ∙ ap f (get_or-take size at' j 0 k) ∙ found_placed.classes j k)
          ∙ sym row_goal

      found_follows : size + 1 ≡ list.plan.sites
          → Follows (graph_of list.plan) numbers (mark_of list.plan) (take size row) (departs (graph_of list.plan) numbers (mark_of list.plan) (take size row) i)
      found_follows joined =
          let long : length (take size row) ≡ size = length-take-le size row (omega (arith, here.small, here.wide_row)) in
          (successor numbers numbers_lawful (graph_of list.plan) (plan_fits list.plan) (mark_of list.plan) (take size row) (row_cheapest joined)).0
          i (omega (arith, long, i_small)) found_good
          (λ j l k. let m : j < size = omega (arith, long) in not_good j m (moved.misses j l (omega (arith, goal_length))))

      -- the links that changed are read out
      module _ (row' : List ℕ) (wide-row' : length row' ≡ 64) (keeps : (j : ℕ) → j < i → get_or row' j 0 ≡ get_or row j 0)
          (writes : (j : ℕ) → (i ≤ j) × (j < size) → get_or row' j 0 ≡ number_of list (get_or at' j 0)) where
        next_shows : (j : ℕ) → j < size → number_of list (get_or at' j 0) ≡ get_or row' j 0
        next_shows j l = elim (cases_lt j i) [
          | inl k ↦
              ap (number_of list) (sym (get_or-take i at' j 0 k) ∙ ap (λ xs. get_or xs j 0) moved.same ∙ get_or-take i at j 0 k)
              ∙ here.shows j l ∙ sym (keeps j k)
          | inr k ↦ sym (writes j (k, l))
        ]

        next_is : departs (graph_of list.plan) numbers (mark_of list.plan) (take size row) i ≡ take size row'
        next_is =
            departs_shown i i_small ∙ ap (map (number_of list)) departed_is
            ∙ numbers_front list at' size (omega (arith, here.small)) found_placed.inside row' (omega (arith, here.small)) next_shows

        pub next_follows : size + 1 ≡ list.plan.sites → Follows (graph_of list.plan) numbers (mark_of list.plan) (take size row) (take size row')
        next_follows joined = subst (Follows (graph_of list.plan) numbers (mark_of list.plan) (take size row)) next_is (found_follows joined)

        pub next_standing : size + 1 ≡ list.plan.sites → Standing list at' stack' size wanted row'
        next_standing joined = record {
          small = here.small;
          wide_at = wide';
          wide_wanted = here.wide_wanted;
          wide_row = wide-row';
          whole = here.whole;
          wants = here.wants;
          inside = found_placed.inside;
          levels = λ j l. found_placed.classes j l ∙ ap (λ xs. get_or xs j 0) aim ∙ get_or-take size wanted j 0 l;
          shows = next_shows;
          fronts = found_placed.fronts;
          passing = (cheapest_passes list (take size row') (next_follows joined).member).0;
        }

  -- the candidates of other links of the wanted marks were found
  pub other_standing : (given : List ℕ) {at' : List ℕ} {stack' : List (List ℕ)} (row' : List ℕ)
      → Matched (start_of list) (end_of list) (number_of list) list.count given at' stack' true → length given ≡ size
      → ((j : ℕ) → j < size → mark_of list.plan (get_or given j 0) ≡ get_or wanted j 0)
      → length at' ≡ 64 → length row' ≡ 64 → ((j : ℕ) → j < size → get_or row' j 0 ≡ get_or given j 0)
      → Standing list at' stack' size wanted row'
  other_standing given {at'} {stack'} row' found long marks wide wide_row same =
      let placed : Placed (start_of list) (end_of list) (number_of list) list.count given at' stack' size =
      subst (λ m. Placed (start_of list) (end_of list) (number_of list) list.count given at' stack' m) long (found.placed refl) in
      let is : take size row' ≡ given = same_fronts size row' given (omega (arith, here.small)) long same in
      record {
        small = here.small;
        wide_at = wide;
        wide_wanted = here.wide_wanted;
        wide_row = wide_row;
        whole = here.whole;
        wants = here.wants;
        inside = placed.inside;
        levels = λ j l. list.classes (get_or at' j 0) (placed.inside j l) ∙ ap (mark_of list.plan) (placed.classes j l) ∙ marks j l;
        shows = λ j l. placed.classes j l ∙ sym (same j l);
        fronts = placed.fronts;
        passing = ap (row_in list) is ∙ sym found.answers;
      }

  -- the row is found again
  pub again_standing : (given : List ℕ) {at' : List ℕ} {stack' : List (List ℕ)} {r : Bool} → given ≡ take size row
      → Matched (start_of list) (end_of list) (number_of list) list.count given at' stack' r → length at' ≡ 64 → Standing list at' stack' size wanted row
  again_standing given {at'} {stack'} {r} e found wide =
      let yes-r : r ≡ true = found.answers ∙ ap (row_in list) e ∙ here.passing in
      let at_j : (j : ℕ) → j < size → get_or row j 0 ≡ get_or given j 0 = λ j l. sym (get_or-take size row j 0 l) ∙ ap (λ xs. get_or xs j 0) (sym e) in
      other_standing given row (subst (Matched (start_of list) (end_of list) (number_of list) list.count given at' stack') yes-r found)
      (ap length e ∙ length-take-le size row (omega (arith, here.small, here.wide_row)))
      (λ j l. ap (mark_of list.plan) (sym (at_j j l) ∙ sym (here.shows j l)) ∙ sym (list.classes (get_or at j 0) (here.inside j l)) ∙ here.levels j l)
      wide here.wide_row at_j

-- the first row was filled in
module _ (list : Candidates) {at : List ℕ} {stack : List (List ℕ)} {size : ℕ} (filled : Filled (start_of list) (end_of list) list.count [] at stack size)
    (wide : length at ≡ 64) (wanted row : List ℕ) (wide_wanted : length wanted ≡ 64) (wide_row : length row ≡ 64)
    (classes : (j : ℕ) → j < size → get_or wanted j 0 ≡ class_of list (get_or at j 0))
    (links : (j : ℕ) → j < size → get_or row j 0 ≡ number_of list (get_or at j 0)) where
  pub first_is : take size row ≡ first_of list.plan
  first_is = sym (numbers_front list at size (omega (arith, filled.few)) filled.inside row (omega (arith, filled.few)) (λ j l. sym (links j l)))
      ∙ ap (map (number_of list)) filled.whole ∙ sym (first_same list)

  first_size_is : size ≡ length (first_of list.plan)
  first_size_is = sym (length-take-le size row (omega (arith, filled.few))) ∙ ap length first_is

  pub first_at : (j : ℕ) → j < size → get_or row j 0 ≡ get_or (first_of list.plan) j 0
  first_at j l = sym (get_or-take size row j 0 l) ∙ ap (λ xs. get_or xs j 0) first_is

  pub first_standing : Standing list at stack size wanted row
  first_standing = record {
    small = filled.few;
    wide_at = wide;
    wide_wanted = wide_wanted;
    wide_row = wide_row;
    whole = first_size_is;
    wants = λ j l. classes j l ∙ list.classes (get_or at j 0) (filled.inside j l) ∙ ap (mark_of list.plan) (sym (links j l) ∙ first_at j l);
    inside = filled.inside;
    levels = λ j l. sym (classes j l);
    shows = λ j l. sym (links j l);
    fronts = filled.fronts;
    passing = ap (row_in list) first_is ∙ best_passes list (first_of list.plan) (first_best list);
  }

-- The row with other links written over its front.
pub written_over : (n k : ℕ) (row given put : List ℕ) → put ≡ given → length given ≡ n → k ≡ n → n ≤ length row
    → (length (put ++ drop k row) ≡ length row) × ((j : ℕ) → j < n → get_or (put ++ drop k row) j 0 ≡ get_or given j 0)
written_over n k row given put e long same room = (
  omega (arith, length-append put (drop k row), length-drop k row, ap length e),
  (λ j l. get_or_append_left put (drop k row) 0 j (omega (arith, ap length e)) ∙ ap (λ xs. get_or xs j 0) e),
)
