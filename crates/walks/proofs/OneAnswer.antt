-- One place, one taking rule and the same held leave one answer to every call: two events in which the same
-- is asked are equal.
use Rattle.std.proofs.Common.{◌≡◌, ℕ, ◌<◌, ◌≤◌, true, List, [], ◌∷◌, length, is_some, Option, sym, ◌∙◌, subst, arith}
use Rattle.forests.specs.Lists.{Different}
use Rattle.networks.specs.declared.refusals.Report.{Report}
use Rattle.walks.specs.Places.{NextMembers, last_of}
use Rattle.receivers.specs.Rules.{Rule, held_after_all}
use Rattle.walks.specs.Taking.{AllTaken}
use Rattle.walks.specs.Events.{Event, gives, refuses, pours, finds, misses}
use Rattle.walks.specs.Answering.{Gives, RefusedFor, short_list, not_joined, no_row_follows, EndsFor, at_limit, no_tree, no_more, not_taken, Pours, Answered}
use Rattle.walks.specs.Steps.{InOrder}
use Rattle.walks.specs.Calls.{call_of}
use Rattle.walks.proofs.Members.{next_front, next_rest, none_of_empty, next_same, next_longer, comes_same, not_last}
use Rattle.walks.proofs.Offered.{taken_rest}

module _ (L : List (List ℕ)) (size : ℕ) (rule : Rule) (once : Different L) where
  -- a pour does not end early: no other run of next members that the rule takes is longer
  not_longer : (J : Type 0) → ((J → ⊥) → L ≡ []) → (here : Option (List ℕ)) (held : List ℕ) (limit letter : ℕ) (rows rows' : List (List ℕ))
      → NextMembers L here rows → Pours L J rule here held limit rows letter
      → NextMembers L here rows' → length rows' ≤ limit → AllTaken rule held rows' → length rows < length rows' → ⊥
  not_longer J empty here held limit letter rows rows' n p n' within all l =
      let q = next_longer L once here rows rows' n n' l in
      let row = q.0 in
      let more = q.1 in
      let there = last_of here rows in
      let m : NextMembers L there (row ∷ more) = next_rest L here rows (row ∷ more) (subst (λ xs. NextMembers L here xs) q.2 n') in
      let t : AllTaken rule (held_after_all rule held rows) (row ∷ more) = taken_rest rule held rows (row ∷ more) (subst (λ xs. AllTaken rule held xs) q.2 all) in
      elim p.ends [
        | at_limit c k ↦ omega arith
        | no_tree c j k ↦ none_of_empty L there row more (empty j) m
        | no_more c j last k ↦ not_last L once there row more m last
        | not_taken c j follows r comes declines k ↦
            let e = comes_same L once there row r (next_front L there (row ∷ []) more m) comes in
            let takes = subst (λ z. is_some (rule (held_after_all rule held rows) z) ≡ true) e t.0 in
            cc
      ]

  module _ (J J' : Type 0) (to : J → J') (back : J' → J) (here : Option (List ℕ)) where
    letter_same : (held : List ℕ) (limit count letter letter' : ℕ) → EndsFor L J rule limit count here held letter → EndsFor L J' rule limit count here held letter' → letter ≡ letter'
    letter_same held limit count letter letter' (at_limit c k) (at_limit c' k') = k ∙ sym k'
    letter_same held limit count letter letter' (at_limit c k) (no_tree c' j' k') = absurd (omega arith)
    letter_same held limit count letter letter' (at_limit c k) (no_more c' j' l' k') = absurd (omega arith)
    letter_same held limit count letter letter' (at_limit c k) (not_taken c' j' f' r' n' d' k') = absurd (omega arith)
    letter_same held limit count letter letter' (no_tree c j k) (at_limit c' k') = absurd (omega arith)
    letter_same held limit count letter letter' (no_tree c j k) (no_tree c' j' k') = k ∙ sym k'
    letter_same held limit count letter letter' (no_tree c j k) (no_more c' j' l' k') = absurd (j (back j'))
    letter_same held limit count letter letter' (no_tree c j k) (not_taken c' j' f' r' n' d' k') = absurd (j (back j'))
    letter_same held limit count letter letter' (no_more c j l k) (at_limit c' k') = absurd (omega arith)
    letter_same held limit count letter letter' (no_more c j l k) (no_tree c' j' k') = absurd (j' (to j))
    letter_same held limit count letter letter' (no_more c j l k) (no_more c' j' l' k') = k ∙ sym k'
    letter_same held limit count letter letter' (no_more c j l k) (not_taken c' j' f' r' n' d' k') = absurd (f' l)
    letter_same held limit count letter letter' (not_taken c j f r n d k) (at_limit c' k') = absurd (omega arith)
    letter_same held limit count letter letter' (not_taken c j f r n d k) (no_tree c' j' k') = absurd (j' (to j))
    letter_same held limit count letter letter' (not_taken c j f r n d k) (no_more c' j' l' k') = absurd (f l')
    letter_same held limit count letter letter' (not_taken c j f r n d k) (not_taken c' j' f' r' n' d' k') = k ∙ sym k'

    reason_same : (list : List ℕ) (why why' : Report) → RefusedFor L size J here list why → RefusedFor L size J' here list why' → why ≡ why'
    reason_same list why why' (short_list s k) (short_list s' k') = k ∙ sym k'
    reason_same list why why' (short_list s k) (not_joined s' j' k') = absurd (omega arith)
    reason_same list why why' (short_list s k) (no_row_follows s' j' l' k') = absurd (omega arith)
    reason_same list why why' (not_joined s j k) (short_list s' k') = absurd (omega arith)
    reason_same list why why' (not_joined s j k) (not_joined s' j' k') = k ∙ sym k'
    reason_same list why why' (not_joined s j k) (no_row_follows s' j' l' k') = absurd (j (back j'))
    reason_same list why why' (no_row_follows s j l k) (short_list s' k') = absurd (omega arith)
    reason_same list why why' (no_row_follows s j l k) (not_joined s' j' k') = absurd (j' (to j))
    reason_same list why why' (no_row_follows s j l k) (no_row_follows s' j' l' k') = k ∙ sym k'

    gives_or_refuses : (list after row : List ℕ) (why : Report) → Gives L size J here list after row → RefusedFor L size J' here list why → ⊥
    gives_or_refuses list after row why g (short_list s k) = omega (arith, g.room)
    gives_or_refuses list after row why g (not_joined s j k) = j (to g.joined)
    gives_or_refuses list after row why g (no_row_follows s j l k) = g.not_last l

  module _ (J J' : Type 0) (to : J → J') (back : J' → J) (empty : (J → ⊥) → L ≡ []) (here : Option (List ℕ)) (held : List ℕ) where
    pours_same : (limit letter letter' : ℕ) (rows rows' : List (List ℕ)) → NextMembers L here rows → NextMembers L here rows'
        → Pours L J rule here held limit rows letter → Pours L J' rule here held limit rows' letter' → pours limit rows letter ≡ pours limit rows' letter'
    pours_same limit letter letter' rows rows' n n' p p' =
        let low : length rows < length rows' → ⊥ = not_longer J empty here held limit letter rows rows' n p n' p'.within p'.all_taken in
        let high : length rows' < length rows → ⊥ = not_longer J' (λ j. empty (λ x. j (to x))) here held limit letter' rows' rows n' p' n p.within p.all_taken in
        let e = next_same L once here rows rows' n n' (omega arith) in
        let ends' = subst (λ xs. EndsFor L J' rule limit (length xs) (last_of here xs) (held_after_all rule held xs) letter') (sym e) p'.ends in
        let k = letter_same J J' to back (last_of here rows) (held_after_all rule held rows) limit (length rows) letter letter' p.ends ends' in
        cc

    pub event_same : (e e' : Event) → InOrder L here e → InOrder L here e' → Answered L size J rule here held e → Answered L size J' rule here held e' → call_of e ≡ call_of e' → e ≡ e'
    event_same (gives list after row) (gives list' after' row') i i' a a' k =
        let l : list ≡ list' = cc in
        let r = comes_same L once here row row' i i' in
        let w = a.writes in
        let w' = a'.writes in
        cc
    event_same (gives list after row) (refuses list' after' why) i i' a a' k =
        let l : list' ≡ list = cc in
        absurd (gives_or_refuses J J' to back here list after row why a (subst (λ z. RefusedFor L size J' here z why) l a'.1))
    event_same (gives list after row) (pours limit rows letter) i i' a a' k = cc
    event_same (gives list after row) (finds row') i i' a a' k = cc
    event_same (gives list after row) (misses row' why) i i' a a' k = cc
    event_same (refuses list after why) (gives list' after' row) i i' a a' k =
        let l : list ≡ list' = cc in
        absurd (gives_or_refuses J' J back to here list' after' row why a' (subst (λ z. RefusedFor L size J here z why) l a.1))
    event_same (refuses list after why) (refuses list' after' why') i i' a a' k =
        let l : list' ≡ list = cc in
        let r = reason_same J J' to back here list why why' a.1 (subst (λ z. RefusedFor L size J' here z why') l a'.1) in
        let w = a.0 in
        let w' = a'.0 in
        cc
    event_same (refuses list after why) (pours limit rows letter) i i' a a' k = cc
    event_same (refuses list after why) (finds row) i i' a a' k = cc
    event_same (refuses list after why) (misses row why') i i' a a' k = cc
    event_same (pours limit rows letter) (gives list after row) i i' a a' k = cc
    event_same (pours limit rows letter) (refuses list after why) i i' a a' k = cc
    event_same (pours limit rows letter) (pours limit' rows' letter') i i' a a' k =
        let l : limit' ≡ limit = cc in
        let s = pours_same limit letter letter' rows rows' i i' a (subst (λ z. Pours L J' rule here held z rows' letter') l a') in
        cc
    event_same (pours limit rows letter) (finds row) i i' a a' k = cc
    event_same (pours limit rows letter) (misses row why) i i' a a' k = cc
    event_same (finds row) (gives list after row') i i' a a' k = cc
    event_same (finds row) (refuses list after why) i i' a a' k = cc
    event_same (finds row) (pours limit rows letter) i i' a a' k = cc
    event_same (finds row) (finds row') i i' a a' k = cc
    event_same (finds row) (misses row' why) i i' a a' k = let r : row ≡ row' = cc in absurd (a'.0 (rw (← r) a))
    event_same (misses row why) (gives list after row') i i' a a' k = cc
    event_same (misses row why) (refuses list after why') i i' a a' k = cc
    event_same (misses row why) (pours limit rows letter) i i' a a' k = cc
    event_same (misses row why) (finds row') i i' a a' k = let r : row ≡ row' = cc in absurd (a.0 (rw r a'))
    event_same (misses row why) (misses row' why') i i' a a' k = let w = a.1 in let w' = a'.1 in cc
