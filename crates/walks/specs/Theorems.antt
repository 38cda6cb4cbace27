-- The theorems on runs, as statements.
use Rattle.std.specs.Prelude.{◌≡◌, ℕ, ◌↔◌, List, [], ◌∷◌, ◌++◌, Option}
use Rattle.forests.specs.Graphs.{Graph, SitesJoined}
use Rattle.forests.specs.Lists.{Different}
use Rattle.receivers.specs.Rules.{Rule}
use Rattle.walks.specs.Events.{Event, latest}
use Rattle.walks.specs.Runs.{Kept}
use Rattle.walks.specs.Steps.{Step}
use Rattle.walks.specs.Calls.{calls_of}

-- A run to which one call is added, by the law of single calls, keeps the laws of runs.
abbrev pub RunsGrow : Type 0
RunsGrow = (g : Graph) (L : List (List ℕ)) (size : ℕ) (rule : Rule) (start held held' : List ℕ)
    (events : List Event) (e : Event) (here' : Option (List ℕ)) → Different L
    → Kept L size (SitesJoined g) rule start events held → Step L size (SitesJoined g) rule (latest events) held e here' held'
    → Kept L size (SitesJoined g) rule start (events ++ (e ∷ [])) held' × (here' ≡ latest (events ++ (e ∷ [])))

-- The laws of runs fix every answer: two runs over one full list, with the same rule and the same start, in
-- which the same is asked, are equal, and the receivers hold the same.
abbrev pub RunsAgree : Type 0
RunsAgree = (g g' : Graph) (L : List (List ℕ)) (size : ℕ) (rule : Rule) (start held held' : List ℕ)
    (events events' : List Event) → Different L → ((SitesJoined g → ⊥) → L ≡ []) → SitesJoined g ↔ SitesJoined g'
    → Kept L size (SitesJoined g) rule start events held → Kept L size (SitesJoined g') rule start events' held'
    → calls_of events ≡ calls_of events' → (events ≡ events') × (held ≡ held')
