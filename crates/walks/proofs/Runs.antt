-- A run with no call keeps the laws, a run to which one call is added keeps them too, and in a run that
-- keeps them every call obeys the law of single calls.
use Rattle.std.proofs.Common.{◌≡◌, ℕ, List, [], ◌∷◌, ◌++◌, None, Option, sym, refl, ap, ◌∙◌, subst, subst₂, inl, inr, append_assoc, append-nil}
use mathlib.Core.List.{foldl, foldl-append}
use Rattle.forests.specs.Lists.{Different}
use Rattle.walks.specs.Places.{NextMembers, last_of}
use Rattle.receivers.specs.Rules.{Rule, held_after_all}
use Rattle.walks.specs.Events.{Event, gives, refuses, pours, finds, misses, taken, sought_after, since_after, latest_after, sought, since, latest, poured}
use Rattle.walks.specs.Answering.{Answered}
use Rattle.walks.specs.Runs.{Kept}
use Rattle.walks.specs.Steps.{InOrder, Step}
use Rattle.walks.proofs.Cuts.{not_cut, front_none, front_push, cut_push}
use Rattle.walks.proofs.Members.{last_append, next_more, next_rest, next_none}
use Rattle.walks.proofs.Offered.{holds_append}

-- the latest row given or sought is the last of the rows given since the latest seek, or else the row sought
last_after : (here from : Option (List ℕ)) (rows : List (List ℕ)) (e : Event) → here ≡ last_of from rows → latest_after here e ≡ last_of (sought_after from e) (since_after rows e)
last_after here from rows (gives list after row) k = sym (last_append from rows (row ∷ []))
last_after here from rows (refuses list after why) k = k
last_after here from rows (pours limit more letter) k = ap (λ z. last_of z more) k ∙ sym (last_append from rows more)
last_after here from rows (finds row) k = refl
last_after here from rows (misses row why) k = k

last_along : (here from : Option (List ℕ)) (rows : List (List ℕ)) (events : List Event) → here ≡ last_of from rows
    → foldl latest_after here events ≡ last_of (foldl sought_after from events) (foldl since_after rows events)
last_along here from rows [] k = k
last_along here from rows (e ∷ events) k =
    last_along (latest_after here e) (sought_after from e) (since_after rows e) events (last_after here from rows e k)

pub latest_last : (events : List Event) → latest events ≡ last_of (sought events) (since events)
latest_last events = last_along None None [] events refl

-- what one more event makes of these
pub sought_push : (events : List Event) (e : Event) → sought (events ++ (e ∷ [])) ≡ sought_after (sought events) e
sought_push events e = foldl-append sought_after None events (e ∷ [])

pub since_push : (events : List Event) (e : Event) → since (events ++ (e ∷ [])) ≡ since_after (since events) e
since_push events e = foldl-append since_after [] events (e ∷ [])

pub latest_push : (events : List Event) (e : Event) → latest (events ++ (e ∷ [])) ≡ latest_after (latest events) e
latest_push events e = foldl-append latest_after None events (e ∷ [])

pub poured_push : (events : List Event) (e : Event) → poured (events ++ (e ∷ [])) ≡ poured events ++ taken e
poured_push events e = foldl-append (λ rows x. rows ++ taken x) [] events (e ∷ [])

module _ (L : List (List ℕ)) (size : ℕ) (J : Type 0) (rule : Rule) where
  -- one more event goes on in order
  order_push : Different L → (from : Option (List ℕ)) (rows : List (List ℕ)) (e : Event) (here : Option (List ℕ)) (held : List ℕ)
      → NextMembers L from rows → InOrder L (last_of from rows) e → Answered L size J rule here held e → NextMembers L (sought_after from e) (since_after rows e)
  order_push once from rows (gives list after row) here held n i a = next_more L once from rows (row ∷ []) n i
  order_push once from rows (refuses list after why) here held n i a = n
  order_push once from rows (pours limit more letter) here held n i a = next_more L once from rows more n i
  order_push once from rows (finds row) here held n i a = next_none L row a
  order_push once from rows (misses row why) here held n i a = n

  order_last : (from : Option (List ℕ)) (rows : List (List ℕ)) (e : Event) → NextMembers L (sought_after from e) (since_after rows e) → InOrder L (last_of from rows) e
  order_last from rows (gives list after row) n = next_rest L from rows (row ∷ []) n
  order_last from rows (refuses list after why) n = tt
  order_last from rows (pours limit more letter) n = next_rest L from rows more n
  order_last from rows (finds row) n = tt
  order_last from rows (misses row why) n = tt

  module _ (start : List ℕ) where
    pub kept_none : Kept L size J rule start [] start
    kept_none = record {
      in_order = λ past rest e. subst (λ xs. NextMembers L (sought xs) (since xs)) (sym (front_none past rest e)) (L, refl);
      holding = refl;
      answers = λ past rest e k. absurd (not_cut past e rest k);
    }

    pub kept_push : Different L → (held held' : List ℕ) (events : List Event) (e : Event) (here' : Option (List ℕ))
        → Kept L size J rule start events held → Step L size J rule (latest events) held e here' held'
        → Kept L size J rule start (events ++ (e ∷ [])) held' × (here' ≡ latest (events ++ (e ∷ [])))
    kept_push once held held' events e here' kept step =
        let now : NextMembers L (sought (events ++ (e ∷ []))) (since (events ++ (e ∷ []))) =
        subst₂ (λ a b. NextMembers L a b) (sym (sought_push events e)) (sym (since_push events e))
        (order_push once (sought events) (since events) e (latest events) held (kept.in_order events [] (sym (append-nil events)))
        (subst (λ z. InOrder L z e) (latest_last events) step.in_order) step.answered) in (
          record {
            in_order = λ past rest k. elim (front_push events past rest e k) [
              | inl p ↦ kept.in_order past p.0 p.1
              | inr p ↦ subst (λ xs. NextMembers L (sought xs) (since xs)) (sym p) now
            ];
            holding = step.holding ∙ ap (λ h. held_after_all rule h (taken e)) kept.holding ∙ sym (holds_append rule start (poured events) (taken e)) ∙ ap (λ rows. held_after_all rule start rows) (sym (poured_push events e));
            answers = λ past rest x k. elim (cut_push events past rest x e k) [
              | inl p ↦ kept.answers past p.0 x p.1
              | inr p ↦ subst₂ (λ xs y. Answered L size J rule (latest xs) (held_after_all rule start (poured xs)) y) (sym p.0) (sym p.1)
                  (subst (λ h. Answered L size J rule (latest events) h e) kept.holding step.answered)
            ];
          },
          step.moves ∙ sym (latest_push events e),
        )

    -- every call of the run obeys the law of single calls
    pub kept_step : (held : List ℕ) (past rest : List Event) (e : Event) → Kept L size J rule start (past ++ (e ∷ rest)) held
        → Step L size J rule (latest past) (held_after_all rule start (poured past)) e (latest (past ++ (e ∷ []))) (held_after_all rule start (poured (past ++ (e ∷ []))))
    kept_step held past rest e kept = record {
      in_order = subst (λ z. InOrder L z e) (sym (latest_last past)) (order_last (sought past) (since past) e
          (subst₂ (λ a b. NextMembers L a b) (sought_push past e) (since_push past e) (kept.in_order (past ++ (e ∷ [])) rest (sym (append_assoc past (e ∷ []) rest)))));
      answered = kept.answers past rest e refl;
      moves = latest_push past e;
      holding = ap (λ rows. held_after_all rule start rows) (poured_push past e) ∙ holds_append rule start (poured past) (taken e);
    }
