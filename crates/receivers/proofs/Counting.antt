-- Counts changed entry by entry, each link once: the number of the latest row that counted there says whether the link
-- was counted before.
use Rattle.std.proofs.Common.{◌≡◌, ℕ, zero, suc, ◌+◌, ◌<◌, ◌≤◌, true, false, cond, not, ◌||◌, eqb, ltb, List, [], ◌∷◌, ◌++◌, map, length, get_or, set, replicate, sym, refl, ap, ◌∙◌, subst, ⊎_elim, arith}
use Rattle.std.specs.List.{range_with_len}
use Rattle.std.proofs.lemmas.List.FromFn.{fill_by_all}
use Rattle.std.proofs.lemmas.List.{get_or-set_same, get_or-set_other, get_or-map, length-set, set_past}
use Rattle.std.proofs.lemmas.Bool.{cases_eq, cases_lt, cond-true, cond-false, cond_both, lt-ltb, le-ltb, ltb-true, eq-eqb, ne_eqb, and_parts}
use Rattle.receivers.specs.Tallying.{in_row, all_links, count_after}
use Rattle.receivers.specs.Tallies.{once_more}
use Rattle.receivers.specs.declared.types.Count.{Count}

-- whether a link is in a row with one more entry
pub in_row_push : (link : ℕ) (row : List ℕ) (entry : ℕ) → in_row link (row ++ entry ∷ []) ≡ (in_row link row || eqb entry link)
in_row_push link [] entry = elim (eqb entry link) as (λ b. (b || false) ≡ b) [ true ↦ refl | false ↦ refl ]
in_row_push link (x ∷ row) entry =
    ap (λ b. eqb x link || b) (in_row_push link row entry)
    ∙ elim (eqb x link) as (λ b. (b || (in_row link row || eqb entry link)) ≡ ((b || in_row link row) || eqb entry link)) [ true ↦ refl | false ↦ refl ]

-- an entry of a row of link numbers
pub links_below : (row : List ℕ) (i : ℕ) → all_links row ≡ true → i < length row → get_or row i 0 < 512
links_below [] i all l = absurd (omega arith)
links_below (x ∷ row) zero all l = ltb-true x 512 (and_parts (ltb x 512) (all_links row) all).0
links_below (x ∷ row) (suc i) all l = links_below row i (and_parts (ltb x 512) (all_links row) all).1 (omega arith)

-- a bound on every place outlasts a write
pub bounded_set : (xs : List ℕ) (i v bound : ℕ) → v ≤ bound → ((k : ℕ) → get_or xs k 0 ≤ bound) → (k : ℕ) → get_or (set xs i v) k 0 ≤ bound
bounded_set xs i v bound le all k =
    ⊎_elim
    (λ same. ⊎_elim
    (λ l. subst (λ (x : ℕ). x ≤ bound) (sym (ap (λ j. get_or (set xs i v) j 0) same ∙ get_or-set_same xs i v 0 l)) le)
    (λ m. subst (λ (ys : List ℕ). get_or ys k 0 ≤ bound) (sym (set_past xs i v m)) (all k))
    (cases_lt i (length xs)))
    (λ other. subst (λ (x : ℕ). x ≤ bound) (sym (get_or-set_other xs i k v 0 other)) (all k))
    (cases_eq k i)

-- of the row of this number, these entries are counted
abbrev pub Noted : ℕ → List ℕ → List ℕ → List ℕ → List ℕ → Type 0
Noted number before seen counts lasts =
    (length counts ≡ 512) × (length lasts ≡ 512)
    × ((k : ℕ) → k < 512 → (get_or counts k 0 ≡ count_after before seen k) × (ltb (get_or lasts k 0) number ≡ not (in_row k seen)))

-- none is, as the row begins
pub noted_none : (number : ℕ) (counts lasts : List ℕ) → length counts ≡ 512 → length lasts ≡ 512 → ((k : ℕ) → get_or lasts k 0 < number) → Noted number counts [] counts lasts
noted_none number counts lasts lc ll fresh = (lc, ll, λ k l. (refl, lt-ltb (get_or lasts k 0) number (fresh k)))

module _ (number : ℕ) (before seen counts lasts : List ℕ) (noted : Noted number before seen counts lasts) where
  -- a link that was not counted before has room
  pub noted_room : (link : ℕ) → link < 512 → ((k : ℕ) → get_or before k 0 < number) → get_or lasts link 0 < number → get_or counts link 0 < number
  noted_room link l room old =
      let out : in_row link seen ≡ false = elim (in_row link seen) as (λ b. ltb (get_or lasts link 0) number ≡ not b → b ≡ false) [ true ↦ λ e. sym (lt-ltb (get_or lasts link 0) number old) ∙ e | false ↦ λ e. refl ] (noted.2 link l).1 in
      subst (λ (x : ℕ). x < number) (sym ((noted.2 link l).0 ∙ cond-false (in_row link seen) (get_or before link 0 + 1) (get_or before link 0) out)) (room link)

  -- the link's own count and mark
  noted_here : (link : ℕ) → link < 512 → (once_more number (get_or lasts link 0) (get_or counts link 0) ≡ count_after before (seen ++ link ∷ []) link) × (ltb number number ≡ not (in_row link (seen ++ link ∷ [])))
  noted_here link l =
      let pushed : in_row link (seen ++ link ∷ []) ≡ true = in_row_push link seen link ∙ ap (λ b. in_row link seen || b) (eq-eqb link link refl) ∙ elim (in_row link seen) as (λ b. (b || true) ≡ true) [ true ↦ refl | false ↦ refl ] in (
        elim (in_row link seen) as (λ b. get_or counts link 0 ≡ cond b (get_or before link 0 + 1) (get_or before link 0) → ltb (get_or lasts link 0) number ≡ not b → once_more number (get_or lasts link 0) (get_or counts link 0) ≡ get_or before link 0 + 1) [
          | true ↦ λ c t. cond-false (ltb (get_or lasts link 0) number) (get_or counts link 0 + 1) (get_or counts link 0) t ∙ c
          | false ↦ λ c t. cond-true (ltb (get_or lasts link 0) number) (get_or counts link 0 + 1) (get_or counts link 0) t ∙ ap (λ x. x + 1) c
        ] (noted.2 link l).0 (noted.2 link l).1
            ∙ sym (cond-true (in_row link (seen ++ link ∷ [])) (get_or before link 0 + 1) (get_or before link 0) pushed),
        le-ltb number number (omega arith) ∙ ap not (sym pushed),
      )

  -- those of any other link
  noted_elsewhere : (link k : ℕ) → k < 512 → (k ≡ link → ⊥) → (get_or counts k 0 ≡ count_after before (seen ++ link ∷ []) k) × (ltb (get_or lasts k 0) number ≡ not (in_row k (seen ++ link ∷ [])))
  noted_elsewhere link k l other =
      let same : in_row k seen ≡ in_row k (seen ++ link ∷ []) = sym (in_row_push k seen link ∙ ap (λ b. in_row k seen || b) (ne_eqb link k (λ e. other (sym e))) ∙ elim (in_row k seen) as (λ b. (b || false) ≡ b) [ true ↦ refl | false ↦ refl ]) in
      ((noted.2 k l).0 ∙ ap (λ b. cond b (get_or before k 0 + 1) (get_or before k 0)) same, (noted.2 k l).1 ∙ ap not same)

  -- one more entry is counted
  pub noted_more : (link : ℕ) → link < 512 → Noted number before (seen ++ link ∷ []) (set counts link (once_more number (get_or lasts link 0) (get_or counts link 0))) (set lasts link number)
  noted_more link l =
      let count : ℕ = once_more number (get_or lasts link 0) (get_or counts link 0) in
      let in_c : link < length counts = omega (arith, noted.0) in
      let inL : link < length lasts = omega (arith, noted.1) in (
        length-set counts link count ∙ noted.0,
        length-set lasts link number ∙ noted.1,
        λ k lk. ⊎_elim
            (λ same. subst (λ (j : ℕ). (get_or (set counts link count) j 0 ≡ count_after before (seen ++ link ∷ []) j) × (ltb (get_or (set lasts link number) j 0) number ≡ not (in_row j (seen ++ link ∷ [])))) (sym same)
            (get_or-set_same counts link count 0 in_c ∙ (noted_here link l).0, ap (λ x. ltb x number) (get_or-set_same lasts link number 0 inL) ∙ (noted_here link l).1))
            (λ other. (get_or-set_other counts link k count 0 other ∙ (noted_elsewhere link k lk other).0, ap (λ x. ltb x number) (get_or-set_other lasts link k number 0 other) ∙ (noted_elsewhere link k lk other).1))
            (cases_eq k link),
      )

  -- the same, from what the step is known to leave
  pub noted_step : (link at : ℕ) (seen' counts' lasts' : List ℕ) → link < 512 → at ≡ number → seen' ≡ seen ++ link ∷ [] → counts' ≡ set counts link (once_more at (get_or lasts link 0) (get_or counts link 0)) → lasts' ≡ set lasts link at → Noted number before seen' counts' lasts'
  noted_step link at seen' counts' lasts' l same s c t =
      let c'' = c ∙ ap (λ n. set counts link (once_more n (get_or lasts link 0) (get_or counts link 0))) same in
      let t'' = t ∙ ap (λ n. set lasts link n) same in
      subst (λ (xs : List ℕ). Noted number before xs counts' lasts') (sym s)
      (subst (λ (xs : List ℕ). Noted number before (seen ++ link ∷ []) xs lasts') (sym c'')
      (subst (λ (xs : List ℕ). Noted number before (seen ++ link ∷ []) (set counts link (once_more number (get_or lasts link 0) (get_or counts link 0))) xs) (sym t'') (noted_more link l)))

  -- all of the row is counted
  pub noted_all : (n : ℕ) → n ≡ 512 → counts ≡ map (count_after before seen) (range_with_len 0 n)
  noted_all n is =
      subst (λ (m : ℕ). counts ≡ map (count_after before seen) (range_with_len 0 m)) (sym is)
      (fill_by_all (count_after before seen) counts 512 0 noted.0 (λ k l. (noted.2 k l).0))

-- zeros everywhere, past the end too
pub alike : (n k : ℕ) → ◌≡◌ {A = ℕ} (get_or (replicate n 0) k 0) 0
alike zero k = refl
alike (suc n) zero = refl
alike (suc n) (suc k) = alike n k

-- the count and the mark of one link, read from its record
module _ (links : List Count) (link : ℕ) (inside : link < length links) where
  pub times_at : get_or (map (λ c. c.times) links) link 0 ≡ (get_or links link (record { times = 0; last = 0 })).times
  times_at = get_or-map (λ c. c.times) links link (record { times = 0; last = 0 }) 0 inside

  pub last_at : get_or (map (λ c. c.last) links) link 0 ≡ (get_or links link (record { times = 0; last = 0 })).last
  last_at = get_or-map (λ c. c.last) links link (record { times = 0; last = 0 }) 0 inside

-- a count that goes up only where the row was not counted stays within the rows
pub within_rows : (last times new rows : ℕ) → (last < rows → times < rows) → times ≤ rows → new ≡ once_more rows last times → new ≤ rows
within_rows last times new rows room few is =
    subst (λ (x : ℕ). x ≤ rows) (sym is)
    (cond_both (ltb last rows) (times + 1) times (λ x. x ≤ rows) (λ e. omega (arith, room (ltb-true last rows e))) (λ e. few))
