-- Bytes written into their places.
use Rattle.std.proofs.Common.{◌≡◌, ℕ, ◌+◌, ◌-◌, ◌*◌, ◌<◌, ◌≤◌, List, [], ◌∷◌, ◌++◌, length, get_or, take, drop, set, sym, ap, ◌∙◌, append-nil, suc-mul, zero-mul, arith}
use borrow.Rule.Slice.PartMut.{put_mid}
use Rattle.std.specs.List.{flat_map}
use Rattle.std.proofs.lemmas.List.{append_assoc, drop_all, drop_at, drop-drop, flat_map_more, length-append, take_at, take_more}
use Rattle.std.proofs.lemmas.Slice.{take-put_mid}
use Rattle.sheets.proofs.Records.{times_more}

-- two bytes, and then others up to the end
pub record_put : (places : List ℕ) (a b k : ℕ) (rest : List ℕ) → 2 ≤ length places → length places - 2 ≤ k → put_mid 2 k (set (set places 0 a) 1 b) rest ≡ a ∷ b ∷ rest
record_put [] a b k rest l e = absurd (omega arith)
record_put (x ∷ []) a b k rest l e = absurd (omega arith)
record_put (x ∷ (y ∷ behind)) a b k rest l e =
    ap (λ end. a ∷ b ∷ (rest ++ end)) (drop_all k behind (omega arith)) ∙ ap (λ xs. a ∷ b ∷ xs) (append-nil rest)

-- one record more of r bytes
pub records_more : {A : Type 0} (f : A → List ℕ) (links : List A) (i r k : ℕ) (link : A) (places one : List ℕ) → i < length links → link ≡ get_or links i link → i * r ≤ length places → length one ≡ r → one ≡ f link → take (i * r) places ≡ flat_map f (take i links) → take ((i + 1) * r) (put_mid (i * r) k places one) ≡ flat_map f (take (i + 1) links)
records_more f links i r k link places one inside read room size is front =
    ap (λ n. take n (put_mid (i * r) k places one)) (times_more i r)
    ∙ take-put_mid (i * r) k places one (i * r + r) (ap (λ n. i * r + n) (sym size)) room
    ∙ ap (λ xs. xs ++ one) front
    ∙ ap (λ xs. flat_map f (take i links) ++ xs) is
    ∙ flat_map_more f [] (take i links) link
    ∙ sym (ap (flat_map f) (take_more links i link inside ∙ ap (λ x. take i links ++ x ∷ []) (sym read)))

-- nine bytes written at the front, and then k more behind them
pub front_and_middle : (sheet front middle : List ℕ) (k : ℕ) → length front ≡ 9 → put_mid 9 k (front ++ drop 9 sheet) middle ≡ (front ++ middle) ++ drop (9 + k) sheet
front_and_middle sheet front middle k nine =
    ap (λ xs. xs ++ (middle ++ drop k (drop 9 (front ++ drop 9 sheet)))) (take_at front (drop 9 sheet) 9 nine)
    ∙ ap (λ xs. front ++ (middle ++ drop k xs)) (drop_at front (drop 9 sheet) 9 nine)
    ∙ ap (λ xs. front ++ (middle ++ xs)) (drop-drop k 9 sheet)
    ∙ sym (append_assoc front middle (drop (9 + k) sheet))

-- records of r bytes each
pub length_joined : {A : Type 0} (f : A → List ℕ) (r : ℕ) (links : List A) → ((x : A) → length (f x) ≡ r) → length (flat_map f links) ≡ length links * r
length_joined f r [] wide = sym (zero-mul r)
length_joined f r (x ∷ links) wide =
    length-append (f x) (flat_map f links) ∙ ap (λ n. n + length (flat_map f links)) (wide x) ∙ ap (λ n. r + n) (length_joined f r links wide)
    ∙ (let e = suc-mul (length links) r in omega arith)
