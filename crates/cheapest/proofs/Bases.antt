-- Rows over what is chosen already. A base is a rising free list of candidates, as long as the greedy
-- completion; the completion is itself a base and is lowest at every position. Since amounts follow
-- the key, it has the least total of all free lists of that length, and a base has that total if and
-- only if it has the completion's amounts at every position.
use Rattle.std.proofs.Common.{◌≡◌, ℕ, ◌<◌, ◌≤◌, Bool, true, List, [], ◌∷◌, map, length, sym, refl, ap, ◌∙◌, subst, inl, inr, arith}
use Rattle.forests.specs.Lists.{In, Within, Rising}
use Rattle.forests.specs.Closures.{Closure, Indep, Free, picks}
use Rattle.forests.proofs.Closure.{free_different}
use Rattle.forests.proofs.Completion.{picks_within, picks_ordered, picks_free, picks_longest, free_any_order}
use Rattle.forests.proofs.Dominance.{lowest}
use Rattle.weights.specs.Scales.{Scale, Lawful, sum_of}
use Rattle.cheapest.specs.Completions.{sorted}
use Rattle.cheapest.proofs.Orders.{Along, along_places, along_weaker}
use Rattle.cheapest.proofs.Amounts.{total_le, total_same, total_sorted}
use Rattle.cheapest.proofs.Sorting.{sorted_in, in_sorted, length_sorted, sorted_rising, different_apart}

-- Where rows are formed: a way of spanning with its test, a key, the links that are chosen whatever
-- the row, and the candidates for the row.
pub record Setting : Type 1 where
  pub Span : List ℕ → ℕ → Type 0
  pub test : List ℕ → ℕ → Bool
  pub key : ℕ → ℕ
  pub chosen : List ℕ
  pub candidates : List ℕ

-- What the theory asks of it: the laws of spanning, that the chosen links are independent, and that
-- the candidates rise by the key.
pub record Proper (G : Setting) : Type 0 where
  pub closure : Closure G.Span G.test
  pub start : Indep G.Span G.chosen
  pub rising : Rising G.key G.candidates

-- The greedy completion.
abbrev pub greedy : Setting → List ℕ
greedy G = picks G.test G.chosen G.candidates

-- A row of full length.
pub record Base (G : Setting) (r : List ℕ) : Type 0 where
  pub rises : Rising G.key r
  pub within : Within r G.candidates
  pub free : Free G.Span G.chosen r
  pub size : length r ≡ length (greedy G)

-- Amounts do not fall as keys rise.
abbrev pub AmountsFollow : (s : Scale) → (ℕ → s.Amount) → (ℕ → ℕ) → List ℕ → Type 0
AmountsFollow s w key cs = (x y : ℕ) → In x cs → In y cs → key x ≤ key y → s.le (w x) (w y) ≡ true

-- In a rising list a key settles its member.
pub rising_injective : (key : ℕ → ℕ) (xs : List ℕ) → Rising key xs → (x y : ℕ) → In x xs → In y xs → key x ≡ key y → x ≡ y
rising_injective key [] r x y m k e = absurd m
rising_injective key (z ∷ zs) r x y (inl a) (inl b) e = a ∙ sym b
rising_injective key (z ∷ zs) r x y (inl a) (inr k) e = absurd (omega (arith, ap key a, r.0 y k))
rising_injective key (z ∷ zs) r x y (inr m) (inl b) e = absurd (omega (arith, ap key b, r.0 x m))
rising_injective key (z ∷ zs) r x y (inr m) (inr k) e = rising_injective key zs r.1 x y m k e

module _ (G : Setting) (ok : Proper G) where
  open G use {Span, test, key, chosen as F, candidates as cs}

  pub no_longer : (xs : List ℕ) → Free Span F xs → Within xs cs → length xs ≤ length (greedy G)
  no_longer xs f within = picks_longest Span test ok.closure F cs xs ok.start f within

  pub first_base : Base G (greedy G)
  first_base = record {
    rises = picks_ordered (λ x y. key x < key y) test F cs ok.rising;
    within = picks_within test F cs;
    free = picks_free Span test ok.closure F cs;
    size = refl;
  }

  pub first_lowest : (r : List ℕ) → Base G r → Along (λ x y. key x ≤ key y) (greedy G) r
  first_lowest r b = along_places (λ x y. key x ≤ key y) (greedy G) r (sym b.size)
      (lowest Span test ok.closure key F cs r ok.rising b.rises b.within ok.start b.free)

  -- a free list of candidates of that length, in any order, is a base once it is sorted
  pub sorted_base : (xs : List ℕ) → Free Span F xs → Within xs cs → length xs ≡ length (greedy G)
      → Base G (sorted key xs)
  sorted_base xs f within len = record {
    rises = sorted_rising key xs (different_apart key xs (free_different Span test ok.closure F xs f)
        (λ x y m k. rising_injective key cs ok.rising x y (within x m) (within y k)));
    within = λ x m. within x (sorted_in key x xs m);
    free = free_any_order Span test ok.closure F xs (sorted key xs) ok.start f (λ x m. in_sorted key x xs m) (omega (arith, length_sorted key xs));
    size = length_sorted key xs ∙ len;
  }

  module _ (s : Scale) (laws : Lawful s) (w : ℕ → s.Amount) (follow : AmountsFollow s w key cs) where
    pub amounts_along : (xs ys : List ℕ) → Within xs cs → Within ys cs → Along (λ x y. key x ≤ key y) xs ys
        → Along (λ x y. s.le (w x) (w y) ≡ true) xs ys
    amounts_along xs ys a b = along_weaker (λ x y. key x ≤ key y) (λ x y. s.le (w x) (w y) ≡ true) xs ys (λ x y m k h. follow x y (a x m) (b y k) h)

    pub first_amounts : (r : List ℕ) → Base G r → Along (λ x y. s.le (w x) (w y) ≡ true) (greedy G) r
    first_amounts r b = amounts_along (greedy G) r (picks_within test F cs) b.within (first_lowest r b)

    -- the completion has the least total
    pub least_total : (xs : List ℕ) → Free Span F xs → Within xs cs → length xs ≡ length (greedy G)
        → s.le (sum_of s (map w (greedy G))) (sum_of s (map w xs)) ≡ true
    least_total xs f within len =
        subst (λ t. s.le (sum_of s (map w (greedy G))) t ≡ true) (total_sorted s laws w key xs)
        (total_le s laws w (greedy G) (sorted key xs) (first_amounts (sorted key xs) (sorted_base xs f within len)))

    -- and whatever has no higher total has its amounts
    pub same_amounts : (r : List ℕ) → Base G r
        → s.le (sum_of s (map w r)) (sum_of s (map w (greedy G))) ≡ true → map w r ≡ map w (greedy G)
    same_amounts r b h = total_same s laws w (greedy G) r (first_amounts r b) h

    pub amounts_least : (r : List ℕ) → map w r ≡ map w (greedy G) → (xs : List ℕ) → Free Span F xs → Within xs cs → length xs ≡ length (greedy G)
        → s.le (sum_of s (map w r)) (sum_of s (map w xs)) ≡ true
    amounts_least r e xs f within len =
        subst (λ t. s.le (sum_of s t) (sum_of s (map w xs)) ≡ true) (sym e) (least_total xs f within len)
