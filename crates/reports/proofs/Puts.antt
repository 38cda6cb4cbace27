-- Parts put out one behind the other.
use Rattle.std.proofs.Common.{ℕ, List, [], ◌++◌, sym, refl, ap, ◌∙◌, subst, append_assoc, append-nil}
use Rattle.reports.specs.Sinks.{PutOut, nothing, one_more}

module _ {S : Type 0} (took : S → List ℕ → S → Type 0) where
  pub put_one : (start end : S) (part : List ℕ) → took start part end → PutOut took start part end
  put_one start end part t = one_more [] part start (nothing refl refl) t refl

  -- one text, and then another
  pub put_both : (start middle end : S) (a b : List ℕ) → PutOut took start a middle → PutOut took middle b end → PutOut took start (a ++ b) end
  put_both start middle end a b first (nothing e same) =
      subst (λ (t : List ℕ). PutOut took start t end) (sym (ap (λ (t : List ℕ). a ++ t) e ∙ append-nil a)) (subst (λ (x : S). PutOut took start a x) (sym same) first)
  put_both start middle end a b first (one_more before part here second t e) =
      one_more (a ++ before) part here (put_both start middle here a before first second) t (ap (λ (t : List ℕ). a ++ t) e ∙ sym (append_assoc a before part))
