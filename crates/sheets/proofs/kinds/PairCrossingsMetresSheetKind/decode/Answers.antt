use Rattle.std.proofs.Common.{◌≡◌, List, ℕ, ◌+◌, ◌*◌, ◌++◌, take, get_or, ap, ◌∙◌, arith}
use Rattle.std.proofs.lemmas.List.{take-append-drop, get_or-take}
use Rattle.sheets.specs.Numbers.{be32}
use Rattle.sheets.proofs.BigEndian.{be16_at}
use Rattle.sheets.proofs.kinds.PairCrossingsMetresSheetKind.decode.Goals as goal

pub returns : goal.returns
returns c =
    let bytes = c.args.encoded.now in
    let front = c.in_ok-crossings.crossings.now in
    let cut = c.in_ok-crossings.ensures.cases in
    let read : c.from_be_bytes.result ≡ get_or front 0 0 * 256 + get_or front 1 0 = (let e = c.from_be_bytes.ensures in omega arith) in
    let high : get_or front 0 0 ≡ get_or bytes 0 0 = ap (λ (xs : List ℕ). get_or xs 0 0) cut.0 ∙ get_or-take 2 bytes 0 0 (omega arith) in
    let low : get_or front 1 0 ≡ get_or bytes 1 0 = ap (λ (xs : List ℕ). get_or xs 1 0) cut.0 ∙ get_or-take 2 bytes 1 0 (omega arith) in
    let number : c.from_be_bytes.result ≡ get_or bytes 0 0 * 256 + get_or bytes 1 0 = omega arith in
    ap (λ (xs : List ℕ). xs ++ be32 c.in_ok-decode.field-0.0) (be16_at bytes 0 (λ k. omega (arith, c.type_inv.encoded k)) c.from_be_bytes.result (omega (arith, cut.2)) number)
    ∙ ap (λ (xs : List ℕ). take 2 bytes ++ xs) (c.in_ok-decode.ensures ∙ cut.1)
    ∙ take-append-drop 2 bytes
