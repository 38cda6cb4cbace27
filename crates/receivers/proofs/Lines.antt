-- How long the line of a row can be.
use Rattle.std.proofs.Common.{ℕ, zero, suc, ◌*◌, ◌<◌, ◌≤◌, List, [], ◌∷◌, length, get_or, decimal, arith}
use Rattle.std.proofs.lemmas.Fmt.{length-decimal-le}
use Rattle.std.proofs.lemmas.List.{length-append}
use Rattle.receivers.specs.Writing.{spaced, entries_of, line_of, ShortRow}

-- a number of 16 bits has at most five digits
few_digits : (n : ℕ) → n < 65536 → length (decimal n) ≤ 5
few_digits n small = length-decimal-le 5 n (omega arith) (omega arith) (omega arith)

spaced_short : (row : List ℕ) → ((i : ℕ) → get_or row i 0 < 65536) → length (spaced row) ≤ 6 * length row
spaced_short [] small = omega arith
spaced_short (n ∷ row) small =
    let rest = spaced_short row (λ i. small (suc i)) in
    let digits = few_digits n (small zero) in
    omega (arith, length-append (32 ∷ decimal n) (spaced row))

pub entries_short : (row : List ℕ) → ShortRow row → length (entries_of row) ≤ 377
entries_short [] short = omega arith
entries_short (n ∷ row) short =
    let rest = spaced_short row (λ i. short.1 (suc i)) in
    let digits = few_digits n (short.1 zero) in
    let few = short.0 in
    omega (arith, length-append (decimal n) (spaced row))

pub line_short : (row : List ℕ) → ShortRow row → length (line_of row) ≤ 378
line_short row short = let l = entries_short row short in omega (arith, length-append (entries_of row) (10 ∷ []))
