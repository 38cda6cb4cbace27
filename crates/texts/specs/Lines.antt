-- What a line holds.
use Rattle.std.specs.Prelude.{ℕ, List, take}
use Rattle.texts.specs.declared.types.LineOf.{LineOf}

-- the bytes of the line
abbrev pub line_bytes : {N : ℕ} → LineOf N → List ℕ
line_bytes l = take l.len l.places
