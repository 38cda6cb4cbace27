-- Records one after the other.
use Rattle.std.proofs.Common.{◌≡◌, ℕ, suc, ◌+◌, ◌*◌, ◌<◌, ◌≤◌, List, [], ◌∷◌, ◌++◌, length, get_or, take, drop, set, sym, ap, ◌∙◌, mul-le-mul_right, add-mul, one-mul, arith}
use Rattle.std.specs.List.{flat_map}
use Rattle.std.proofs.lemmas.List.{drop_more, take_more_set, take-take, drop-take, take-append-drop, flat_map_more}

-- two bytes and then w more, from an offset
pub record_read : (xs : List ℕ) (o w : ℕ) → o + (2 + w) ≤ length xs → get_or xs o 0 ∷ get_or xs (o + 1) 0 ∷ take w (drop (o + 1 + 1) xs) ≡ take (2 + w) (drop o xs)
record_read xs o w l =
    let more : 2 + w ≡ suc (suc w) = omega arith in
    sym
    (ap (λ n. take n (drop o xs)) more
    ∙ ap (take (suc (suc w))) (drop_more xs o 0 (omega arith))
    ∙ ap (λ rest. get_or xs o 0 ∷ take (suc w) rest) (drop_more xs (o + 1) 0 (omega arith)))

pub take_plus : {A : Type 0} (m n : ℕ) (xs : List A) → take (m + n) xs ≡ take m xs ++ take n (drop m xs)
take_plus m n xs =
    sym (take-append-drop m (take (m + n) xs)) ∙ ap (λ front. front ++ drop m (take (m + n) xs)) (take-take m (m + n) xs (omega arith))
    ∙ ap (λ back. take m xs ++ back) (drop-take m n xs)

pub times_more : (i r : ℕ) → (i + 1) * r ≡ i * r + r
times_more i r = add-mul i 1 r ∙ ap (λ n. i * r + n) (one-mul r)

-- one record more of r bytes
pub joined_step : {A : Type 0} (f : A → List ℕ) (links : List A) (i r : ℕ) (link : A) (bytes : List ℕ) → i < length links → flat_map f (take i links) ≡ take (i * r) bytes → f link ≡ take r (drop (i * r) bytes) → flat_map f (take (i + 1) (set links i link)) ≡ take ((i + 1) * r) bytes
joined_step f links i r link bytes l front one =
    ap (flat_map f) (take_more_set links i link l)
    ∙ sym (flat_map_more f [] (take i links) link)
    ∙ ap (λ xs. xs ++ f link) front
    ∙ ap (λ xs. take (i * r) bytes ++ xs) one
    ∙ sym (ap (λ n. take n bytes) (times_more i r) ∙ take_plus (i * r) r bytes)

pub room_left : (i n r : ℕ) → i < n → i * r + r ≤ n * r
room_left i n r l = let h : (i + 1) * r ≤ n * r = mul-le-mul_right r (omega arith) in let e = times_more i r in omega arith
