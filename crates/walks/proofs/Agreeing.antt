-- Runs that keep the laws and in which the same is asked are equal, call by call from the first on.
use Rattle.std.proofs.Common.{◌≡◌, ℕ, List, [], ◌∷◌, ◌++◌, sym, refl, ap, ◌∙◌, subst, append_assoc}
use Rattle.forests.specs.Lists.{Different}
use Rattle.receivers.specs.Rules.{Rule, held_after_all}
use Rattle.walks.specs.Events.{Event, latest, poured}
use Rattle.walks.specs.Runs.{Kept}
use Rattle.walks.specs.Calls.{call_of, calls_of}
use Rattle.walks.proofs.Cuts.{not_empty}
use Rattle.walks.proofs.Runs.{kept_step}
use Rattle.walks.proofs.OneAnswer.{event_same}

module _ (L : List (List ℕ)) (size : ℕ) (rule : Rule) (once : Different L) (J J' : Type 0) (to : J → J') (back : J' → J) (empty : (J → ⊥) → L ≡ []) (start : List ℕ) where
  rest_same : (held held' : List ℕ) (past rest rest' : List Event) → Kept L size J rule start (past ++ rest) held → Kept L size J' rule start (past ++ rest') held'
      → calls_of rest ≡ calls_of rest' → rest ≡ rest'
  rest_same held held' past [] [] kept kept' k = refl
  rest_same held held' past [] (e' ∷ rest') kept kept' k = absurd (not_empty (call_of e') (calls_of rest') k)
  rest_same held held' past (e ∷ rest) [] kept kept' k = absurd (not_empty (call_of e) (calls_of rest) (sym k))
  rest_same held held' past (e ∷ rest) (e' ∷ rest') kept kept' k =
      let step = kept_step L size J rule start held past rest e kept in
      let step' = kept_step L size J' rule start held' past rest' e' kept' in
      let here = latest past in
      let now = held_after_all rule start (poured past) in
      let asked : call_of e ≡ call_of e' = cc in
      let later : calls_of rest ≡ calls_of rest' = cc in
      let q = event_same L size rule once J J' to back empty here now e e' step.in_order step'.in_order step.answered step'.answered asked in
      let more = subst (λ xs. Kept L size J rule start xs held) (sym (append_assoc past (e ∷ []) rest)) kept in
      let more' = subst (λ xs. Kept L size J' rule start xs held') (ap (λ z. past ++ (z ∷ rest')) (sym q) ∙ sym (append_assoc past (e ∷ []) rest')) kept' in
      let r = rest_same held held' (past ++ (e ∷ [])) rest rest' more more' later in
      cc

  pub kept_same : (held held' : List ℕ) (events events' : List Event) → Kept L size J rule start events held → Kept L size J' rule start events' held'
      → calls_of events ≡ calls_of events' → (events ≡ events') × (held ≡ held')
  kept_same held held' events events' kept kept' k =
      let e = rest_same held held' [] events events' kept kept' k in
      (e, kept.holding ∙ ap (λ xs. held_after_all rule start (poured xs)) e ∙ sym kept'.holding)
