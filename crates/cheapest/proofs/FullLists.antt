-- The full list. Whether a choice of candidates is best can be tested: each link in turn for closing a
-- ring, and each amount against that of the completion. The choices that pass, in their order, are a
-- full list; and since rows come before one another in one direction only, there is no second one.
use Rattle.std.proofs.Common.{◌≡◌, ℕ, Bool, true, false, not, ◌&&◌, List, [], ◌∷◌, map, length, Decides, sym, refl, ap, ap₂, arith}
use Rattle.std.proofs.lemmas.Bool.{false≢true}
use Rattle.std.proofs.lemmas.Bool.Decides.{Decides-and, Decides-not, Decides-like}
use Rattle.forests.specs.Closures.{Closure, Free}
use Rattle.weights.specs.Scales.{Scale, Lawful}
use Rattle.cheapest.specs.Rows.{Earlier, Listing, Next}
use Rattle.cheapest.specs.Completions.{passing}
use Rattle.cheapest.proofs.Orders.{ordered_unique, ordered_weaker, earlier_asym}
use Rattle.cheapest.proofs.Amounts.{le_refl}
use Rattle.cheapest.proofs.Sorting.{passing_in, in_passing, passing_ordered}
use Rattle.cheapest.proofs.Bases.{Setting, Proper, greedy}
use Rattle.cheapest.proofs.Successors.{Best}
use Rattle.cheapest.proofs.Choices.{choices, choices-ordered, choice-sound, choice-whole}

-- one property, one list
pub listing_unique : (key : ℕ → ℕ) (P : List ℕ → Type 0) (L L' : List (List ℕ)) → Listing key P L → Listing key P L' → L ≡ L'
listing_unique key P L L' a b = ordered_unique (Earlier key) (earlier_asym key) L L' a.listed b.listed
    (λ r m. b.whole r (a.sound r m)) (λ r m. a.whole r (b.sound r m))

-- two properties of the same rows, under keys that order those rows alike
pub listing_alike : (key key' : ℕ → ℕ) (P P' : List ℕ → Type 0) (L : List (List ℕ))
    → ((r : List ℕ) → P r → P' r) → ((r : List ℕ) → P' r → P r) → ((r q : List ℕ) → P r → P q → Earlier key r q → Earlier key' r q)
    → Listing key P L → Listing key' P' L
listing_alike key key' P P' L there back order a = record {
  sound = λ r m. there r (a.sound r m);
  whole = λ r p. a.whole r (back r p);
  listed = ordered_weaker (Earlier key) (Earlier key') L (λ r q m k e. order r q (a.sound r m) (a.sound q k) e) a.listed;
}

pub next_alike : (key : ℕ → ℕ) (P P' : List ℕ → Type 0) (here r : List ℕ)
    → ((r : List ℕ) → P r → P' r) → ((r : List ℕ) → P' r → P r) → Next key P here r → Next key P' here r
next_alike key P P' here r there back n = record {
  member = there r n.member;
  later = n.later;
  none_between = λ q p. n.none_between q (back q p);
}

abbrev free_test : (List ℕ → ℕ → Bool) → List ℕ → List ℕ → Bool
free_test test S [] = true
free_test test S (x ∷ xs) = not (test S x) && free_test test (x ∷ S) xs

abbrev amounts_test : (s : Scale) → (ℕ → s.Amount) → List ℕ → List ℕ → Bool
amounts_test s w [] [] = true
amounts_test s w [] (y ∷ ys) = false
amounts_test s w (x ∷ xs) [] = false
amounts_test s w (x ∷ xs) (y ∷ ys) = (s.le (w x) (w y) && s.le (w y) (w x)) && amounts_test s w xs ys

free_decides : (Span : List ℕ → ℕ → Type 0) (test : List ℕ → ℕ → Bool) → Closure Span test → (S xs : List ℕ) → Decides (free_test test S xs) (Free Span S xs)
free_decides Span test C S [] = (λ _. tt, λ _. refl)
free_decides Span test C S (x ∷ xs) =
    Decides-and (not (test S x)) (free_test test (x ∷ S) xs) (Decides-not (test S x) (C.dec S x)) (free_decides Span test C (x ∷ S) xs)

amounts_decides : (s : Scale) (laws : Lawful s) (w : ℕ → s.Amount) (xs ys : List ℕ) → Decides (amounts_test s w xs ys) (map w xs ≡ map w ys)
amounts_decides s laws w [] [] = (λ _. refl, λ _. refl)
amounts_decides s laws w [] (y ∷ ys) = (λ e. absurd (false≢true e), λ e. absurd (omega (arith, ap length e)))
amounts_decides s laws w (x ∷ xs) [] = (λ e. absurd (false≢true e), λ e. absurd (omega (arith, ap length e)))
amounts_decides s laws w (x ∷ xs) (y ∷ ys) =
    let here : Decides (s.le (w x) (w y) && s.le (w y) (w x)) (w x ≡ w y) =
    Decides-like (s.le (w x) (w y) && s.le (w y) (w x)) (λ p. laws.antisym (w x) (w y) p.0 p.1)
    (λ e. (le_refl s laws (w x) (w y) e, le_refl s laws (w y) (w x) (sym e)))
    (Decides-and (s.le (w x) (w y)) (s.le (w y) (w x)) ((λ e. e), (λ e. e)) ((λ e. e), (λ e. e))) in
    Decides-like (amounts_test s w (x ∷ xs) (y ∷ ys)) (λ p. ap₂ (λ h t. h ∷ t) p.0 p.1) (λ e. (heads e, tails e))
    (Decides-and (s.le (w x) (w y) && s.le (w y) (w x)) (amounts_test s w xs ys) here (amounts_decides s laws w xs ys))
  where
    heads : {A : Type 0} {a b : A} {p q : List A} → (a ∷ p) ≡ (b ∷ q) → a ≡ b
    heads e = cc

    tails : {A : Type 0} {a b : A} {p q : List A} → (a ∷ p) ≡ (b ∷ q) → p ≡ q
    tails e = cc

module _ (G : Setting) (ok : Proper G) (s : Scale) (laws : Lawful s) (w : ℕ → s.Amount) where
  open G use {Span, test, key, chosen as F, candidates as cs}

  best_test : List ℕ → Bool
  best_test r = free_test test F r && amounts_test s w r (greedy G)

  best_decides : (r : List ℕ) → Decides (best_test r) (Free Span F r × (map w r ≡ map w (greedy G)))
  unfolding best_test
  best_decides r = Decides-and (free_test test F r) (amounts_test s w r (greedy G))
      (free_decides Span test ok.closure F r) (amounts_decides s laws w r (greedy G))

  pub full_list : (L : List (List ℕ)) × Listing key (Best G s w) L
  full_list =
      let k = length (greedy G) in
      let L = passing best_test (choices k cs) in (
        L,
        record {
          sound = λ r m.
              let p = passing_in best_test r (choices k cs) m in
              let c = choice-sound key k cs r ok.rising p.0 in
              let b = (best_decides r).0 p.1 in
              record { base = record { rises = c.0; within = c.1; free = b.0; size = c.2 }; amounts = b.1 };
          whole = λ r b.
              in_passing best_test r (choices k cs) (choice-whole key k cs r ok.rising b.base.rises b.base.within b.base.size)
              ((best_decides r).1 (b.base.free, b.amounts));
          listed = passing_ordered best_test (Earlier key) (choices k cs) (choices-ordered key k cs ok.rising);
        },
      )
