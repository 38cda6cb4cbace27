-- What calls of put have put out.
use Rattle.std.specs.Prelude.{◌≡◌, ℕ, List, [], ◌++◌}

-- Calls of put led from the state `start` to the state `end`, and the parts between them make up the text.
pub data PutOut {S : Type 0} (took : S → List ℕ → S → Type 0) (start : S) : List ℕ → S → Type 0 where
  nothing : {text : List ℕ} {end : S} → text ≡ [] → end ≡ start → PutOut took start text end
  one_more : {text : List ℕ} {end : S} (before part : List ℕ) (here : S) → PutOut took start before here → took here part end → text ≡ before ++ part → PutOut took start text end
