-- What stands in a written list can be tested; and a link's class is read off the full list.
use Rattle.std.proofs.Common.{◌≡◌, ℕ, Bool, true, false, eqb, List, [], ◌∷◌, Decides, sym, refl, subst, inl, inr}
use Rattle.std.proofs.lemmas.Slice.Eq.{bytes_eq-Decides}
use Rattle.std.proofs.lemmas.Bool.{or_parts, and_parts, both_ways}
use Rattle.std.proofs.lemmas.Bool.Decides.{Decides-or, Decides-eqb, not_from_Decides}
use Rattle.std.specs.List.{list_any, list_all}
use Rattle.std.specs.Str.{bytes_eq}
use Rattle.forests.specs.Graphs.{Graph}
use Rattle.forests.specs.Lists.{In}
use Rattle.weights.specs.Amounts.{numbers}
use Rattle.cheapest.specs.Classes.{InSome}
use Rattle.cheapest.specs.Trees.{FullList}
use Rattle.networks.specs.Classes.{HasClass}
use Rattle.networks.specs.declared.classes.Class.TheVariants.{Never, Always, Sometimes}

some_decides : {A : Type 0} (x : A) (test : A → Bool) → ((y : A) → Decides (test y) (x ≡ y)) → (xs : List A) → Decides (list_any test xs) (In x xs)
some_decides x test each [] = (λ e. absurd (both_ways false refl e), λ m. absurd m)
some_decides x test each (y ∷ ys) = Decides-or (test y) (list_any test ys) (each y) (some_decides x test each ys)

-- whether a link stands in a row, and a row in a list
abbrev pub has : ℕ → List ℕ → Bool
has e = list_any (eqb e)

abbrev pub stands : List ℕ → List (List ℕ) → Bool
stands row = list_any (bytes_eq row)

pub has_decides : (e : ℕ) (row : List ℕ) → Decides (has e row) (In e row)
has_decides e = some_decides e (eqb e) (Decides-eqb e)

pub stands_decides : (row : List ℕ) (L : List (List ℕ)) → Decides (stands row L) (In row L)
stands_decides row = some_decides row (bytes_eq row) (bytes_eq-Decides row)

pub not_in : (row : List ℕ) (L : List (List ℕ)) → stands row L ≡ false → In row L → ⊥
not_in row L = not_from_Decides (stands row L) (stands_decides row L)

-- all members pass, and none does
all_pass : {A : Type 0} (test : A → Bool) (xs : List A) → list_all test xs ≡ true → (x : A) → In x xs → test x ≡ true
all_pass test [] t x m = absurd m
all_pass test (y ∷ ys) t x (inl e) = subst (λ z. test z ≡ true) (sym e) (and_parts (test y) (list_all test ys) t).0
all_pass test (y ∷ ys) t x (inr m) = all_pass test ys (and_parts (test y) (list_all test ys) t).1 x m

none_passes : {A : Type 0} (test : A → Bool) (xs : List A) → list_any test xs ≡ false → (x : A) → In x xs → test x ≡ false
none_passes test [] f x m = absurd m
none_passes test (y ∷ ys) f x (inl e) = subst (λ z. test z ≡ false) (sym e) (or_parts (test y) (list_any test ys) f).0
none_passes test (y ∷ ys) f x (inr m) = none_passes test ys (or_parts (test y) (list_any test ys) f).1 x m

module _ (g : Graph) (w : ℕ → ℕ) (L : List (List ℕ)) (full : FullList g numbers w L) (e : ℕ) where
  -- a row of the list has the link
  in_some : (r : List ℕ) → In r L → In e r → InSome g numbers w (e ∷ [])
  in_some r listed inside = (r, full.sound r listed, λ x m. elim m [ inl k ↦ subst (λ z. In z r) (sym k) inside | inr n ↦ absurd n ])

  -- one row of the list has the link, and all have it
  pub always : (r : List ℕ) → In r L → In e r → list_all (has e) L ≡ true → HasClass g numbers w e Always
  always r listed inside all = (in_some r listed inside, λ q c. (has_decides e q).0 (all_pass (has e) L all q (full.whole q c)))

  -- one row of the list has the link, and another has not
  pub sometimes : (r q : List ℕ) → In r L → In e r → In q L → has e q ≡ false → HasClass g numbers w e Sometimes
  sometimes r q listed inside other lacks = (in_some r listed inside, λ each. not_from_Decides (has e q) (has_decides e q) lacks (each q (full.sound q other)))

  -- no row of the list has the link
  pub never : list_any (has e) L ≡ false → HasClass g numbers w e Never
  never none within =
      let (r, c, inside) = within in
      not_from_Decides (has e r) (has_decides e r) (none_passes (has e) L none r (full.whole r c)) (inside e (inl refl))
