-- Calls one after the other, each by the law of single calls, are a run that keeps the laws of runs; and since
-- these leave one answer to every call, every run in which the same is asked brings the same.
use Rattle.std.proofs.Common.{◌≡◌, ℕ, ◌-◌, List, [], ◌∷◌, ◌++◌, map, None, Option, sym, ap, ◌∙◌, subst, append_assoc, append-nil}
use mathlib.Core.List.{map-map}
use Rattle.forests.specs.Graphs.{SitesJoined}
use Rattle.forests.specs.Lists.{Different}
use Rattle.weights.specs.Weighings.{by_metres}
use Rattle.weights.specs.Amounts.{numbers}
use Rattle.cheapest.proofs.FullLists.{listing_unique}
use Rattle.cheapest.specs.Trees.{FullList}
use Rattle.networks.specs.Networks.{network_graph, weights_of}
use Rattle.receivers.specs.Rules.{Rule, held_after_all}
use Rattle.walks.specs.Calls.{call_of}
use Rattle.walks.specs.Events.{Event, taken, latest_after, latest}
use Rattle.walks.specs.Runs.{Kept}
use Rattle.walks.specs.Steps.{Step}
use Rattle.walks.specs.Turns.{heard_of, left_by}
use Rattle.walks.specs.Walks.{row_size}
use Rattle.walks.proofs.Agreeing.{kept_same}
use Rattle.walks.proofs.Listed.{listed_once, not_joined_empty}
use Rattle.walks.proofs.Runs.{kept_none, kept_push, latest_push}
use Rattle.worked.specs.Brought.{Exchanged, Brings}
use Rattle.worked.specs.Drawn.{Drawn}
use Rattle.worked.proofs.Drawings.{drawn_graph, holds_drawn}
use Rattle.worked.proofs.Listings.{ListsDrawn}

module _ (L : List (List ℕ)) (size : ℕ) (J : Type 0) (rule : Rule) where
  -- each event in its turn obeys the law of single calls
  abbrev pub Goes : Option (List ℕ) → List ℕ → List Event → List ℕ → Type 0
  Goes here held [] end = held ≡ end
  Goes here held (e ∷ events) end =
      Step L size J rule here held e (latest_after here e) (held_after_all rule held (taken e))
      × Goes (latest_after here e) (held_after_all rule held (taken e)) events end

  goes_on : Different L → (start held end : List ℕ) (events past : List Event) → Kept L size J rule start past held → Goes (latest past) held events end
      → Kept L size J rule start (past ++ events) end
  goes_on once start held end [] past kept e =
      subst (λ xs. Kept L size J rule start xs end) (sym (append-nil past)) (subst (λ h. Kept L size J rule start past h) e kept)
  goes_on once start held end (e ∷ events) past kept goes =
      let more = (kept_push L size J rule start once held (held_after_all rule held (taken e)) past e (latest_after (latest past) e) kept goes.0).0 in
      subst (λ xs. Kept L size J rule start xs end) (append_assoc past (e ∷ []) events)
      (goes_on once start (held_after_all rule held (taken e)) end events (past ++ (e ∷ [])) more
      (subst (λ here. Goes here (held_after_all rule held (taken e)) events end) (sym (latest_push past e)) goes.1))

  pub goes_kept : Different L → (start end : List ℕ) (events : List Event) → Goes None start events end → Kept L size J rule start events end
  goes_kept once start end events goes = goes_on once start start end events [] (kept_none L size J rule start) goes

-- an event as the outside sees it
abbrev pub exchanged : Event → Exchanged
exchanged e = (call_of e, heard_of e, left_by e)

-- such events over the full list are those of every run in which the same is asked
pub goes_brings : (sites : ℕ) (links : List Drawn) (L : List (List ℕ)) → ListsDrawn sites links L → (rule : Rule) (start end : List ℕ) (events : List Event)
    → Goes L (sites - 1) (SitesJoined (drawn_graph sites links)) rule None start events end → Brings sites links rule start (map exchanged events) end
goes_brings sites links L full rule start end events goes n d held before after p same =
    let g = network_graph n in
    let w = weights_of by_metres n in
    let once = listed_once _ _ L full in
    let listed : FullList g numbers w L = holds_drawn sites links (λ g w. FullList g numbers w L) full n d in
    let kept : Kept L (row_size n) (SitesJoined g) rule start events end =
    holds_drawn sites links (λ g w. Kept L (g.sites - 1) (SitesJoined g) rule start events end) (goes_kept L (sites - 1) (SitesJoined (drawn_graph sites links)) rule once start end events goes) n d in
    let kept' : Kept L (row_size n) (SitesJoined g) rule start p.events held =
    subst (λ xs. Kept xs (row_size n) (SitesJoined g) rule start p.events held) (listing_unique _ _ p.full L p.listed listed) p.kept in
    let calls : map call_of p.events ≡ map call_of events = sym p.told.asks ∙ same ∙ map-map (λ call. call.0) exchanged events in
    let (one, holding) = kept_same L (row_size n) rule once (SitesJoined g) (SitesJoined g) (λ j. j) (λ j. j) (not_joined_empty g numbers w L listed) start held end p.events events kept' kept calls in (
      p.told.hears ∙ ap (map heard_of) one ∙ sym (map-map (λ call. call.1) exchanged events),
      p.told.leaves ∙ ap (map left_by) one ∙ sym (map-map (λ call. call.2) exchanged events),
      holding,
    )
