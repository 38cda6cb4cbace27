-- A line that parts are put into, with room for all of them.
use Rattle.std.proofs.Common.{◌≡◌, ℕ, ◌+◌, ◌^◌, ◌<◌, ◌≤◌, Bool, cond, leb, List, [], ◌++◌, length, decimal, ap, ◌∙◌, append_assoc, arith}
use Rattle.std.proofs.lemmas.Fmt.{length-decimal-le}
use Rattle.std.proofs.lemmas.List.{length-append}
use Rattle.std.proofs.lemmas.Bool.{cond-true, le-leb}

-- the line after a part was put into it, and its length
pub appended : (before part after : List ℕ) (r : Bool) (n m : ℕ) → r ≡ leb (length before + length part) 64 → after ≡ cond r (before ++ part) before → length before ≤ n → length part ≤ m → n + m ≤ 64 → (after ≡ before ++ part) × (length after ≤ n + m)
appended before part after r n m fits puts few fewer room =
    let yes_way : r ≡ _ = fits ∙ le-leb (length before + length part) 64 (omega arith) in
    let e : after ≡ before ++ part = puts ∙ cond-true r (before ++ part) before yes_way in
    (e, (let l : length after ≡ length before + length part = (let a = length-append before part in rw e a) in omega arith))

-- every 64-bit number has at most twenty digits
pub twenty : (n : ℕ) → n < 2 ^ 64 → length (decimal n) ≤ 20
twenty n small = length-decimal-le 20 n (omega arith) (omega arith) small

-- one part after the other
pub after_four : (l0 l1 l2 l3 l4 a b c d : List ℕ) → l0 ≡ [] → l1 ≡ l0 ++ a → l2 ≡ l1 ++ b → l3 ≡ l2 ++ c → l4 ≡ l3 ++ d → l4 ≡ a ++ (b ++ (c ++ d))
after_four l0 l1 l2 l3 l4 a b c d e0 e1 e2 e3 e4 =
    e4 ∙ ap (λ l. l ++ d) (e3 ∙ ap (λ l. l ++ c) (e2 ∙ ap (λ l. l ++ b) (e1 ∙ ap (λ l. l ++ a) e0)))
    ∙ append_assoc (a ++ b) c d ∙ append_assoc a b (c ++ d)

pub after_six : (l0 l1 l2 l3 l4 l5 l6 a b c d e f : List ℕ) → l0 ≡ [] → l1 ≡ l0 ++ a → l2 ≡ l1 ++ b → l3 ≡ l2 ++ c → l4 ≡ l3 ++ d → l5 ≡ l4 ++ e → l6 ≡ l5 ++ f → l6 ≡ a ++ (b ++ (c ++ (d ++ (e ++ f))))
after_six l0 l1 l2 l3 l4 l5 l6 a b c d e f e0 e1 e2 e3 e4 e5 e6 =
    let four = after_four l0 l1 l2 l3 l4 a b c d e0 e1 e2 e3 e4 in
    e6 ∙ ap (λ l. l ++ f) (e5 ∙ ap (λ l. l ++ e) four)
    ∙ append_assoc (a ++ (b ++ (c ++ d))) e f
    ∙ append_assoc a (b ++ (c ++ d)) (e ++ f)
    ∙ ap (λ l. a ++ l) (append_assoc b (c ++ d) (e ++ f) ∙ ap (λ l. b ++ l) (append_assoc c d (e ++ f)))
