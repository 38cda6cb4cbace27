-- Many sheets, each behind two bytes for its length.
use Rattle.std.specs.Prelude.{◌≡◌, ℕ, ◌+◌, ◌*◌, List, ◌∷◌, ◌++◌, length}

-- the bytes are two for the length of a sheet, the sheet, and what is left
pub record NextSheet (before sheet after : List ℕ) : Type 0 where
  pub high : ℕ
  pub low : ℕ
  pub parts : before ≡ high ∷ low ∷ (sheet ++ after)
  pub long : length sheet ≡ high * 256 + low

-- no sheet stands there whole
abbrev pub CutShort : List ℕ → Type 0
CutShort before = (sheet after : List ℕ) → NextSheet before sheet after → ⊥
