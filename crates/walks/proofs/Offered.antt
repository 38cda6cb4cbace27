-- Rows offered to a receiver one after another.
use Rattle.std.proofs.Common.{◌≡◌, ℕ, false, List, [], ◌∷◌, ◌++◌, is_some, Some, None, Option, unwrap_or, refl}
use Rattle.std.proofs.lemmas.Bool.{true≢false}
use Rattle.receivers.specs.Rules.{Rule, takes, held_after, held_after_all}
use Rattle.walks.specs.Taking.{Takes, AllTaken}

none_same : (o : Option (List ℕ)) (held : List ℕ) → is_some o ≡ false → unwrap_or o held ≡ held
none_same None held e = refl
none_same (Some x) held e = absurd (true≢false e)

module _ (rule : Rule) where
  pub holds_append : (held : List ℕ) (xs ys : List (List ℕ)) → held_after_all rule held (xs ++ ys) ≡ held_after_all rule (held_after_all rule held xs) ys
  holds_append held [] ys = refl
  holds_append held (x ∷ xs) ys = holds_append (held_after rule held x) xs ys

  pub taken_rest : (held : List ℕ) (xs ys : List (List ℕ)) → AllTaken rule held (xs ++ ys) → AllTaken rule (held_after_all rule held xs) ys
  taken_rest held [] ys t = t
  taken_rest held (x ∷ xs) ys t = taken_rest (held_after rule held x) xs ys t.1

  pub taken_push : (held : List ℕ) (xs : List (List ℕ)) (row : List ℕ) → AllTaken rule held xs → Takes rule (held_after_all rule held xs) row → AllTaken rule held (xs ++ (row ∷ []))
  taken_push held [] row t h = (h, tt)
  taken_push held (x ∷ xs) row t h = (t.0, taken_push (held_after rule held x) xs row t.1 h)

-- a row that is not taken alters nothing
pub declined_same : (rule : Rule) (held row : List ℕ) → takes rule held row ≡ false → held_after rule held row ≡ held
declined_same rule held row e = none_same (rule held row) held e
