-- Departures. A departure from a row keeps its first i links, leaves out the next, and is completed by
-- the candidates above that one. It is again a row, and comes later. Where another row of full length
-- parts from the first at i to go higher, the departure is no higher than that row at any position,
-- since the completion is lowest among all that could follow the kept links.
use Rattle.std.proofs.Common.{◌≡◌, ℕ, zero, suc, ◌-◌, ◌<◌, ◌≤◌, ltb, List, [], ◌∷◌, ◌++◌, length, get_or, take, drop, sym, ap, ◌∙◌, subst, inl, inr, arith}
use Rattle.std.proofs.lemmas.List.{length-append, length-take-le, take-append-drop, get_or-append_right, take-append-le, take-take}
use Rattle.std.proofs.lemmas.Bool.{ltb-true, lt-ltb}
use Rattle.forests.specs.Lists.{In, Within, Rising}
use Rattle.forests.specs.Closures.{Free, push, picks}
use Rattle.forests.proofs.Members.{in_take, in_right, in_either, in_get_d}
use Rattle.forests.proofs.Closure.{free_indep, free_take, free_append, free_rest}
use Rattle.forests.proofs.Completion.{picks_within, picks_ordered, picks_free}
use Rattle.forests.proofs.Dominance.{dominance}
use Rattle.cheapest.specs.Rows.{Earlier}
use Rattle.cheapest.specs.Completions.{above, departure}
use Rattle.cheapest.proofs.Orders.{Along, along_places, along_front, ordered_take, ordered_append, ordered_rest, earlier_at}
use Rattle.cheapest.proofs.Sorting.{passing_in, in_passing, passing_ordered}
use Rattle.cheapest.proofs.Bases.{Setting, Proper, greedy, Base, no_longer}

-- The row that departs from r at position i.
abbrev pub departing : Setting → List ℕ → ℕ → List ℕ
departing G r i = departure G.test G.key G.chosen G.candidates r i

-- the members before position i, and those from it on
pub rising_before : (key : ℕ → ℕ) (xs : List ℕ) (i x : ℕ) → Rising key xs → i < length xs → In x (take i xs) → key x < key (get_or xs i 0)
rising_before key xs zero x r l m = absurd m
rising_before key [] (suc i) x r l m = absurd m
rising_before key (y ∷ ys) (suc i) x r l (inl e) = omega (arith, ap key e, r.0 (get_or ys i 0) (in_get_d ys i 0 (omega arith)))
rising_before key (y ∷ ys) (suc i) x r l (inr m) = rising_before key ys i x r.1 (omega arith) m

pub rising_from : (key : ℕ → ℕ) (xs : List ℕ) (i x : ℕ) → Rising key xs → i < length xs → In x (drop i xs) → key (get_or xs i 0) ≤ key x
rising_from key [] i x r l m = absurd (omega arith)
rising_from key (y ∷ ys) zero x r l (inl e) = omega (arith, ap key e)
rising_from key (y ∷ ys) zero x r l (inr m) = omega (arith, r.0 x m)
rising_from key (y ∷ ys) (suc i) x r l m = rising_from key ys i x r.1 (omega arith) m

pub above_in : (key : ℕ → ℕ) (x c : ℕ) (cs : List ℕ) → In c (above key x cs) → In c cs × (key x < key c)
above_in key x c cs m = let p = passing_in (λ z. ltb (key x) (key z)) c cs m in (p.0, ltb-true (key x) (key c) p.1)

module _ (G : Setting) (ok : Proper G) where
  open G use {Span, test, key, chosen as F, candidates as cs}

  -- a departure rises, is free, and consists of candidates
  module _ (r : List ℕ) (i : ℕ) (rises : Rising key r) (within : Within r cs) (free : Free Span F r) (here : i < length r) where
    pub departure_rises : Rising key (departing G r i)
    departure_rises =
        let R : ℕ → ℕ → Type 0 = λ x y. key x < key y in
        let S = push F (take i r) in
        let later = above key (get_or r i 0) cs in
        ordered_append R (take i r) (picks test S later) (ordered_take R i r rises)
        (picks_ordered R test S later (passing_ordered (λ z. ltb (key (get_or r i 0)) (key z)) R cs ok.rising))
        (λ x y m k. omega (arith, rising_before key r i x rises here m, (above_in key (get_or r i 0) y cs (picks_within test S later y k)).1))

    pub departure_within : Within (departing G r i) cs
    departure_within x m =
        let S = push F (take i r) in
        let later = above key (get_or r i 0) cs in
        elim (in_either x (take i r) (picks test S later) m) [
          | inl a ↦ within x (in_take x i r a)
          | inr b ↦ (above_in key (get_or r i 0) x cs (picks_within test S later x b)).0
        ]

    pub departure_free : Free Span F (departing G r i)
    departure_free = free_append Span F (take i r) (picks test (push F (take i r)) (above key (get_or r i 0) cs))
        (free_take Span F r i free) (picks_free Span test ok.closure (push F (take i r)) (above key (get_or r i 0) cs))

    pub departure_base : length (departing G r i) ≡ length (greedy G) → Base G (departing G r i)
    departure_base size = record { rises = departure_rises; within = departure_within; free = departure_free; size = size }

  -- a departure as long as r comes after r
  pub departure_later : (r : List ℕ) (i : ℕ) → i < length r → length (departing G r i) ≡ length r → Earlier key r (departing G r i)
  departure_later r i here size =
      let rest = picks test (push F (take i r)) (above key (get_or r i 0) cs) in
      let front : length (take i r) ≡ i = length-take-le i r (omega arith) in
      let more : 0 < length rest = omega (arith, length-append (take i r) rest) in
      let at_i : get_or (take i r ++ rest) i 0 ≡ get_or rest (i - i) 0 = get_or-append_right (take i r) rest i i 0 front (omega arith) in
      let none : i - i ≡ 0 = omega arith in
      let member : In (get_or rest (i - i) 0) rest = in_get_d rest (i - i) 0 (omega arith) in
      earlier_at key r (take i r ++ rest) i here (omega arith)
      (sym (take-append-le i (take i r) rest (omega arith) ∙ take-take i i r (omega arith)))
      (omega (
        arith,
        ap key at_i,
        (above_in key (get_or r i 0) (get_or rest (i - i) 0) cs
            (picks_within test (push F (take i r)) (above key (get_or r i 0) cs) (get_or rest (i - i) 0) member)).1,
      ))

  -- the departure from r where r' parts from it is a base, and no higher than r' at any position
  module _ (r r' : List ℕ) (b : Base G r) (b' : Base G r') (i : ℕ) (here : i < length r) (here' : i < length r')
      (same : take i r ≡ take i r') (part : key (get_or r i 0) < key (get_or r' i 0)) where
    pub parted_lowest : Base G (departing G r i) × Along (λ x y. key x ≤ key y) (departing G r i) r'
    parted_lowest =
        let front = take i r in
        let S = push F front in
        let later = above key (get_or r i 0) cs in
        let rest = picks test S later in
        let rest' = drop i r' in
        let whole : front ++ rest' ≡ r' = ap (λ xs. xs ++ rest') same ∙ take-append-drop i r' in
        let free' : Free Span S rest' = free_rest Span F front rest' (subst (λ xs. Free Span F xs) (sym whole) b'.free) in
        let rises' : Rising key rest' = ordered_rest (λ x y. key x < key y) front rest' (subst (λ xs. Rising key xs) (sym whole) b'.rises) in
        let within' : Within rest' later = λ x m.
        in_passing (λ z. ltb (key (get_or r i 0)) (key z)) x cs
        (b'.within x (subst (λ xs. In x xs) whole (in_right x front rest' m)))
        (lt-ltb (key (get_or r i 0)) (key x) (omega (arith, rising_from key r' i x b'.rises here' m))) in
        let d = dominance Span test ok.closure key S later rest'
        (passing_ordered (λ z. ltb (key (get_or r i 0)) (key z)) (λ x y. key x < key y) cs ok.rising) rises' within'
        (free_indep Span F front ok.start (free_take Span F r i b.free)) free' in
        let bound = no_longer G ok (departing G r i)
        (departure_free r i b.rises b.within b.free here) (departure_within r i b.rises b.within b.free here) in
        let size : length (front ++ rest) ≡ length (greedy G) =
        omega (arith, d.0, bound, length-append front rest, length-append front rest', ap length whole, b'.size) in
        let level : length rest ≡ length rest' =
        omega (arith, size, length-append front rest, length-append front rest', ap length whole, b'.size) in (
          departure_base r i b.rises b.within b.free here size,
          subst (λ xs. Along (λ x y. key x ≤ key y) (front ++ rest) xs) whole
              (along_front (λ x y. key x ≤ key y) front rest rest' (λ x. omega arith)
              (along_places (λ x y. key x ≤ key y) rest rest' level d.1)),
        )
