-- What a trial answers, writes and refuses.
use Rattle.std.specs.Prelude.{◌≡◌, ℕ, ◌+◌, ◌<◌, Bool, true, List, ◌++◌, length, drop, None, Option, ◌≢◌, nat_eq}
use Rattle.forests.specs.Graphs.{Graph, SitesJoined}
use Rattle.weights.specs.Scales.{Scale}
use Rattle.cheapest.specs.Classes.{closing}
use Rattle.cheapest.specs.Ranks.{rank}
use Rattle.cheapest.specs.Rows.{Earlier}
use Rattle.cheapest.specs.Trees.{Cheapest}
use Rattle.networks.specs.Links.{open_below}
use Rattle.networks.specs.Refusals.{Unless, at}
use Rattle.networks.specs.declared.closed.Closed.{Closed}
use Rattle.networks.specs.declared.refusals.Layer.TheVariants.{Network}
use Rattle.networks.specs.declared.refusals.Report.{Report}

-- The graph with one link closed. A number that no link has closes nothing.
abbrev pub without : Graph → ℕ → Graph
without g link = closing g (λ e. nat_eq e link)

-- The graph with those links open that the record leaves open.
abbrev pub open_only : Closed → Graph → Graph
open_only closed g = record { sites = g.sites; links = g.links; from = g.from; to = g.to; usable = open_below closed g.links }

-- The first row of the full list.
pub record FirstRow (g : Graph) (s : Scale) (w : ℕ → s.Amount) (r : List ℕ) : Type 0 where
  pub member : Cheapest g s w r
  pub none_before : (r' : List ℕ) → Cheapest g s w r' → Earlier (rank g s w) r' r → ⊥

-- A trial is refused if the passed list has fewer places than a row has entries, one less than there are
-- sites; and else if the sites are not joined before anything is closed.
abbrev pub TrialRefusal : Graph → ℕ → Option Report → Type 0
TrialRefusal g places said =
    Unless (places + 1 < g.sites) (at Network 10 places) said (Unless (SitesJoined g → ⊥) (at Network 15 0) said (said ≡ None))

-- The list has the row in its first places, and is as before in the others.
abbrev pub Written : List ℕ → List ℕ → List ℕ → Type 0
Written row before after = after ≡ row ++ drop (length row) before

-- If there is a first row, the list has it, and else the list is as before.
pub record FirstWritten (g : Graph) (s : Scale) (w : ℕ → s.Amount) (written : Bool) (before after : List ℕ) : Type 0 where
  pub writes : written ≡ true → (r : List ℕ) × FirstRow g s w r × Written r before after
  pub leaves : (written ≢ true) → after ≡ before
