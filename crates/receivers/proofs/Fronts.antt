-- What is left of a passed list, and the list once it is given back.
use Rattle.std.proofs.Common.{◌≡◌, ℕ, ◌+◌, ◌-◌, List, ◌++◌, length, take, drop, sym, ap, ◌∙◌, ⊎_elim, arith}
use Rattle.std.proofs.lemmas.Bool.{cases_lt}
use Rattle.std.proofs.lemmas.List.{length-take-le, take_all, length-drop, length-append, drop-drop, drop_all}
use Rattle.receivers.specs.Rules.{with_places_given_back, EndOf}

-- a list has no more places in use than its length
pub reach_take : {T : Type 0} (cells : List T) (used : ℕ) → take (length (take used cells)) cells ≡ take used cells
reach_take cells used =
    ⊎_elim
    (λ l. ap (λ n. take n cells) (length-take-le used cells (omega arith)))
    (λ m. ap (λ xs. take (length xs) cells) (take_all used cells m) ∙ take_all (length cells) cells (omega arith) ∙ sym (take_all used cells m))
    (cases_lt used (length cells))

pub reach_drop : {T : Type 0} (cells : List T) (used : ℕ) → drop (length (take used cells)) cells ≡ drop used cells
reach_drop cells used =
    ⊎_elim
    (λ l. ap (λ n. drop n cells) (length-take-le used cells (omega arith)))
    (λ m. ap (λ xs. drop (length xs) cells) (take_all used cells m) ∙ drop_all (length cells) cells (omega arith) ∙ sym (drop_all used cells m))
    (cases_lt used (length cells))

-- a list without some of its front is its end
pub end_drop : (n : ℕ) (xs : List ℕ) → EndOf xs (drop n xs)
end_drop n xs =
    let l = length-drop n xs in
    ⊎_elim
    (λ inside. let left : n ≡ length xs - length (drop n xs) = omega arith in ap (λ k. drop k xs) left)
    (λ past. drop_all n xs past ∙ sym (drop_all (length xs - length (drop n xs)) xs (omega arith)))
    (cases_lt n (length xs))

-- an end of an end
pub end_end : (a b c : List ℕ) → EndOf a b → EndOf b c → EndOf a c
end_end a b c ab bc =
    let lb : length b ≡ length a - (length a - length b) = ap length ab ∙ length-drop (length a - length b) a in
    let lc : length c ≡ length b - (length b - length c) = ap length bc ∙ length-drop (length b - length c) b in
    let n : length a - length b + (length b - length c) ≡ length a - length c = omega arith in
    bc ∙ ap (λ xs. drop (length b - length c) xs) ab ∙ drop-drop (length b - length c) (length a - length b) a ∙ ap (λ k. drop k a) n

-- the passed list once it is given back: what is held, and behind it what stood there
pub given_back : (cells cells' held spare want : List ℕ) → cells' ≡ held ++ spare → EndOf cells spare → length cells' ≡ length cells → held ≡ want → cells' ≡ with_places_given_back cells want
given_back cells cells' held spare want is end same wanted =
    let l = ap length is ∙ length-append held spare in
    let n : length cells - length spare ≡ length held = omega arith in
    is ∙ ap (λ xs. held ++ xs) (end ∙ ap (λ k. drop k cells) n) ∙ ap (λ xs. with_places_given_back cells xs) wanted
