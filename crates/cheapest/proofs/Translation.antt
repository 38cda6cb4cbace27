-- From candidates to links. A row of candidates stands for the row of their link numbers; rings, greedy
-- completions, the first row and departures are the same for both.
use Rattle.std.proofs.Common.{◌≡◌, ℕ, zero, suc, ◌+◌, ◌<◌, Bool, true, cond, not, ◌&&◌, eqb, ltb, List, [], ◌∷◌, ◌++◌, map, length, get_or, take, drop, sym, refl, ap, ◌∙◌, inl, inr, add-one, arith}
use Rattle.std.proofs.lemmas.List.{map-append, get_or-map, take-map, drop-map}
use Rattle.std.proofs.lemmas.Bool.{cases_Bool, cond-true, cond-false, lt-ltb, le-ltb}
use Rattle.weights.specs.Amounts.{numbers}
use Rattle.forests.specs.Lists.{In, Rising}
use Rattle.forests.specs.Closures.{push, picks}
use Rattle.forests.specs.Labels.{find, relabel, below, closes_ring}
use Rattle.forests.proofs.Members.{in_get_d, in_parts, in_take}
use Rattle.cheapest.specs.Completions.{passing, above, departs}
use Rattle.cheapest.specs.Plans.{graph_of, mark_of, ranked_of, first_of}
use Rattle.cheapest.specs.Scans.{ring, grown, departed, matches}
use Rattle.cheapest.specs.declared.candidates.Candidates.{Candidates}
use Rattle.cheapest.specs.Candidates.{start_of, end_of, number_of}
use Rattle.cheapest.proofs.TreeRows.{candidates_rising}
use Rattle.cheapest.proofs.Sorting.{below_in}
use Rattle.cheapest.proofs.Growth.{in_below_from}
use Rattle.cheapest.proofs.Numbers.{numbers_lawful}
use Rattle.cheapest.proofs.Listed.{key_of, listed}

passing_all : (test : ℕ → Bool) (xs : List ℕ) → ((x : ℕ) → In x xs → test x ≡ true) → passing test xs ≡ xs
passing_all test [] h = refl
passing_all test (x ∷ xs) h =
    cond-true (test x) (x ∷ passing test xs) (passing test xs) (h x (inl refl)) ∙ ap (λ ys. x ∷ ys) (passing_all test xs (λ y m. h y (inr m)))

-- in a rising list, what is above a member comes after it
pub above_drop : (key : ℕ → ℕ) (cs : List ℕ) (c : ℕ) → Rising key cs → c < length cs → above key (get_or cs c 0) cs ≡ drop (suc c) cs
above_drop key [] c r l = absurd (omega arith)
above_drop key (y ∷ ys) zero r l =
    cond-false (ltb (key y) (key y)) (y ∷ above key y ys) (above key y ys) (le-ltb (key y) (key y) (omega arith))
    ∙ passing_all (λ z. ltb (key y) (key z)) ys (λ z m. lt-ltb (key y) (key z) (r.0 z m))
above_drop key (y ∷ ys) (suc c) r l =
    let x = get_or ys c 0 in
    let k : c < length ys = omega arith in
    cond-false (ltb (key x) (key y)) (y ∷ above key x ys) (above key x ys)
    (le-ltb (key x) (key y) (omega (arith, r.0 x (in_get_d ys c 0 k))))
    ∙ above_drop key ys c r.1 k

pub map_push : (f : ℕ → ℕ) (S xs : List ℕ) → map f (push S xs) ≡ push (map f S) (map f xs)
map_push f S [] = refl
map_push f S (x ∷ xs) = map_push f (x ∷ S) xs

module _ (list : Candidates) where
  -- these are candidates
  abbrev pub Small : List ℕ → Type 0
  Small xs = (c : ℕ) → In c xs → c < list.count

  abbrev link_of : ℕ → ℕ
  link_of = number_of list

  pub find_same : (S : List ℕ) (u : ℕ) → Small S
      → find (graph_of list.plan).from (graph_of list.plan).to (map link_of S) u ≡ find (start_of list) (end_of list) S u
  find_same [] u h = refl
  find_same (f ∷ S) u h =
      let g = graph_of list.plan in
      let old : ℕ → ℕ = find g.from g.to (map link_of S) in
      let new : ℕ → ℕ = find (start_of list) (end_of list) S in
      let same : (v : ℕ) → old v ≡ new v = λ v. find_same S v (λ c m. h c (inr m)) in
      let l = h f (inl refl) in
      ap (λ x. relabel x (old (g.to (link_of f))) (old u)) (same (g.from (link_of f)) ∙ ap new (sym (list.starts f l)))
      ∙ ap (λ x. relabel (new (start_of list f)) x (old u)) (same (g.to (link_of f)) ∙ ap new (sym (list.ends f l)))
      ∙ ap (relabel (new (start_of list f)) (new (end_of list f))) (same u)

  pub ring_same : (S : List ℕ) (c : ℕ) → Small S → c < list.count
      → closes_ring (graph_of list.plan) (map link_of S) (link_of c) ≡ ring (start_of list) (end_of list) S c
  ring_same S c h l =
      let g = graph_of list.plan in
      let new : ℕ → ℕ = find (start_of list) (end_of list) S in
      let old : ℕ → ℕ = find g.from g.to (map link_of S) in
      ap (λ x. eqb x (old (g.to (link_of c)))) (find_same S (g.from (link_of c)) h ∙ ap new (sym (list.starts c l)))
      ∙ ap (eqb (new (start_of list c))) (find_same S (g.to (link_of c)) h ∙ ap new (sym (list.ends c l)))

  small_more : (S : List ℕ) (c : ℕ) → Small S → c < list.count → Small (c ∷ S)
  small_more S c h l d m = elim m [ inl e ↦ omega arith | inr k ↦ h d k ]

  pub picks_same : (S xs : List ℕ) → Small S → Small xs
      → picks (closes_ring (graph_of list.plan)) (map link_of S) (map link_of xs) ≡ map link_of (picks (ring (start_of list) (end_of list)) S xs)
  picks_same S [] h k = refl
  picks_same S (c ∷ cs) h k =
      let test = closes_ring (graph_of list.plan) in
      let round = ring (start_of list) (end_of list) in
      let l = k c (inl refl) in
      let rest : Small cs = λ d m. k d (inr m) in
      let T = map link_of S in
      let xs = map link_of cs in
      elim (cases_Bool (round S c)) [
        | inl t ↦ cond-true (test T (link_of c)) (picks test T xs) (link_of c ∷ picks test (link_of c ∷ T) xs) (ring_same S c h l ∙ t)
            ∙ picks_same S cs h rest
            ∙ ap (map link_of) (sym (cond-true (round S c) (picks round S cs) (c ∷ picks round (c ∷ S) cs) t))
        | inr f ↦ cond-false (test T (link_of c)) (picks test T xs) (link_of c ∷ picks test (link_of c ∷ T) xs) (ring_same S c h l ∙ f)
            ∙ ap (λ ys. link_of c ∷ ys) (picks_same (c ∷ S) cs (small_more S c h l) rest)
            ∙ ap (map link_of) (sym (cond-false (round S c) (picks round S cs) (c ∷ picks round (c ∷ S) cs) f))
      ]

  pub small_below : Small (below list.count)
  small_below c m = below_in list.count c m

  pub first_same : first_of list.plan ≡ map link_of (picks (ring (start_of list) (end_of list)) [] (below list.count))
  first_same = ap (λ cs. picks (closes_ring (graph_of list.plan)) [] cs) (sym (listed list)) ∙ picks_same [] (below list.count) (λ c m. absurd m) small_below

  small_push : (xs : List ℕ) → Small xs → Small (push [] xs)
  small_push xs h c m = elim (in_parts c xs [] m) [ inl a ↦ h c a | inr b ↦ absurd b ]

  pub grown_same : (front : List ℕ) (c : ℕ) → Small front
      → map link_of front ++ picks (closes_ring (graph_of list.plan)) (push [] (map link_of front)) (drop c (ranked_of list.plan))
      ≡ map link_of (grown (start_of list) (end_of list) list.count front c)
  grown_same front c h =
      let test = closes_ring (graph_of list.plan) in
      let round = ring (start_of list) (end_of list) in
      let n = list.count in
      let S = push [] front in
      ap (λ cs. map link_of front ++ picks test (push [] (map link_of front)) (drop c cs)) (sym (listed list))
      ∙ ap (λ cs. map link_of front ++ picks test (push [] (map link_of front)) cs) (drop-map link_of c (below n))
      ∙ ap (λ T. map link_of front ++ picks test T (map link_of (drop c (below n)))) (sym (map_push link_of [] front))
      ∙ ap (λ xs. map link_of front ++ xs) (picks_same S (drop c (below n)) (small_push front h) (λ d m. (in_below_from n c d m).1))
      ∙ sym (map-append link_of front (picks round S (drop c (below n))))

  pub departs_same : (row : List ℕ) (i : ℕ) → i < length row → Small row
      → departs (graph_of list.plan) numbers (mark_of list.plan) (map link_of row) i ≡ map link_of (departed (start_of list) (end_of list) list.count row i)
  departs_same row i l h =
      let p = list.plan in
      let test = closes_ring (graph_of p) in
      let key = key_of p in
      let cs = ranked_of p in
      let r = map link_of row in
      let c = get_or row i 0 in
      let lc : c < list.count = h c (in_get_d row i 0 l) in
      let front : take i r ≡ map link_of (take i row) = take-map link_of i row in
      let later : above key (get_or r i 0) cs ≡ drop (c + 1) cs =
      ap (λ x. above key x cs) (get_or-map link_of row i 0 0 l ∙ list.numbers c lc)
      ∙ above_drop key cs c (candidates_rising (graph_of p) numbers numbers_lawful (mark_of p)) (omega (arith, list.all))
      ∙ ap (λ n. drop n cs) (sym (add-one c)) in
      ap (λ xs. xs ++ picks test (push [] xs) (above key (get_or r i 0) cs)) front
      ∙ ap (λ xs. map link_of (take i row) ++ picks test (push [] (map link_of (take i row))) xs) later
      ∙ grown_same (take i row) (c + 1) (λ d m. h d (in_take d i row m))

  -- the test on candidates is the test on links
  pub matches_same : (S cs row : List ℕ) → Small S → Small cs
      → matches (ring (start_of list) (end_of list)) link_of S cs row ≡ matches (closes_ring (graph_of list.plan)) (λ x. x) (map link_of S) (map link_of cs) row
  matches_same S [] [] h k = refl
  matches_same S [] (x ∷ row) h k = refl
  matches_same S (c ∷ cs) [] h k = refl
  matches_same S (c ∷ cs) (x ∷ row) h k =
      let test = closes_ring (graph_of list.plan) in
      let round = ring (start_of list) (end_of list) in
      let l = k c (inl refl) in
      let rest : Small cs = λ d m. k d (inr m) in
      let T = map link_of S in
      let xs = map link_of cs in
      ap (λ b. cond (eqb (link_of c) x) (not b && matches round link_of (c ∷ S) cs row) (matches round link_of S cs (x ∷ row))) (sym (ring_same S c h l))
      ∙ ap (λ b. cond (eqb (link_of c) x) (not (test T (link_of c)) && b) (matches round link_of S cs (x ∷ row)))
      (matches_same (c ∷ S) cs row (small_more S c h l) rest)
      ∙ ap (λ b. cond (eqb (link_of c) x) (not (test T (link_of c)) && matches test (λ y. y) (link_of c ∷ T) xs row) b)
      (matches_same S cs (x ∷ row) h rest)
