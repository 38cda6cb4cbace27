-- A number that bytes write is written by the same bytes.
use Rattle.std.proofs.Common.{◌≡◌, ℕ, ◌+◌, ◌*◌, ◌/◌, ◌%◌, ◌<◌, ◌≤◌, List, [], ◌∷◌, length, get_or, take, drop, sym, ap, ◌∙◌, arith}
use Rattle.std.proofs.lemmas.List.{drop_more}
use Rattle.sheets.specs.Numbers.{be16, be32}

be32_of : (a b c d n : ℕ) → b < 256 → c < 256 → d < 256 → n ≡ a * 16777216 + b * 65536 + c * 256 + d → be32 n ≡ a ∷ b ∷ c ∷ d ∷ []
be32_of a b c d n hb hc hd e =
    let first : n / 16777216 ≡ a = omega arith in
    let second : n / 65536 % 256 ≡ b = omega arith in
    let third : n / 256 % 256 ≡ c = omega arith in
    let fourth : n % 256 ≡ d = omega arith in
    cc

be16_of : (a b n : ℕ) → b < 256 → n ≡ a * 256 + b → be16 n ≡ a ∷ b ∷ []
be16_of a b n hb e =
    let first : n / 256 ≡ a = omega arith in
    let second : n % 256 ≡ b = omega arith in
    cc

module _ (xs : List ℕ) (i : ℕ) where
  two : i + 2 ≤ length xs → take 2 (drop i xs) ≡ get_or xs i 0 ∷ get_or xs (i + 1) 0 ∷ []
  two l =
      ap (take 2) (drop_more xs i 0 (omega arith))
      ∙ ap (λ rest. get_or xs i 0 ∷ take 1 rest) (drop_more xs (i + 1) 0 (omega arith))

  four : i + 4 ≤ length xs → take 4 (drop i xs) ≡ get_or xs i 0 ∷ get_or xs (i + 1) 0 ∷ get_or xs (i + 2) 0 ∷ get_or xs (i + 3) 0 ∷ []
  four l =
      let a = drop_more xs i 0 (omega arith) in
      let b : drop (i + 1) xs ≡ get_or xs (i + 1) 0 ∷ drop (i + 2) xs = drop_more xs (i + 1) 0 (omega arith) ∙ ap (λ k. get_or xs (i + 1) 0 ∷ drop k xs) (omega arith) in
      let c : drop (i + 2) xs ≡ get_or xs (i + 2) 0 ∷ drop (i + 3) xs = drop_more xs (i + 2) 0 (omega arith) ∙ ap (λ k. get_or xs (i + 2) 0 ∷ drop k xs) (omega arith) in
      let d = drop_more xs (i + 3) 0 (omega arith) in
      ap (take 4) a ∙ ap (λ rest. get_or xs i 0 ∷ take 3 rest) b ∙ ap (λ rest. get_or xs i 0 ∷ get_or xs (i + 1) 0 ∷ take 2 rest) c
      ∙ ap (λ rest. get_or xs i 0 ∷ get_or xs (i + 1) 0 ∷ get_or xs (i + 2) 0 ∷ take 1 rest) d

  module _ (small : (k : ℕ) → get_or xs k 0 < 256) where
    pub be16_at : (n : ℕ) → i + 2 ≤ length xs → n ≡ get_or xs i 0 * 256 + get_or xs (i + 1) 0 → be16 n ≡ take 2 (drop i xs)
    be16_at n l e = be16_of (get_or xs i 0) (get_or xs (i + 1) 0) n (small (i + 1)) e ∙ sym (two l)

    pub be32_at : (n : ℕ) → i + 4 ≤ length xs → n ≡ get_or xs i 0 * 16777216 + get_or xs (i + 1) 0 * 65536 + get_or xs (i + 2) 0 * 256 + get_or xs (i + 3) 0 → be32 n ≡ take 4 (drop i xs)
    be32_at n l e =
        be32_of (get_or xs i 0) (get_or xs (i + 1) 0) (get_or xs (i + 2) 0) (get_or xs (i + 3) 0) n (small (i + 1)) (small (i + 2)) (small (i + 3)) e ∙ sym (four l)
