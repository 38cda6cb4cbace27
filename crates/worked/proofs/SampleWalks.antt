-- The runs on the sample network, call by call.
use Rattle.std.proofs.Common.{ℕ, ◌≤◌, List, [], ◌∷◌, length, take, drop, Some, None, Option, refl, inl, inr, arith}
use Rattle.forests.specs.Graphs.{SitesJoined}
use Rattle.forests.specs.Lists.{Different}
use Rattle.networks.specs.Refusals.{at}
use Rattle.networks.specs.declared.refusals.Layer.TheVariants.{Walk}
use Rattle.receivers.specs.Keeping.{keeping}
use Rattle.receivers.specs.Rules.{Rule}
use Rattle.walks.specs.Answering.{EndsFor, no_row_follows, at_limit, no_more, letter_l, letter_x, letter_f}
use Rattle.walks.specs.Events.{refuses, pours, finds, misses}
use Rattle.walks.specs.Places.{Comes, IsLast}
use Rattle.walks.specs.Steps.{Step}
use Rattle.walks.proofs.Listed.{listed_once}
use Rattle.walks.proofs.Steps.{step_gives, step_refuses, step_finds, step_misses, step_pours, poured_none, ends_not_taken}
use Rattle.worked.specs.Brought.{Brings}
use Rattle.worked.specs.Samples.{sample, sample_rows, sample_calls, keeper_calls, seek_calls}
use Rattle.worked.proofs.Classing.{not_in}
use Rattle.worked.proofs.Drawings.{drawn_graph, drawn_metres}
use Rattle.worked.proofs.Going.{goes_brings}
use Rattle.worked.proofs.Listings.{sample_lists}
use Rattle.worked.proofs.SmallWalks.{list_joins, given}

-- the sample network
abbrev Joined : Type 0
Joined = SitesJoined (drawn_graph 4 sample)

sample_joined : Joined
sample_joined = list_joins (drawn_graph 4 sample) (drawn_metres sample) _ _ sample_lists

sample_once : Different sample_rows
sample_once = listed_once _ _ sample_rows sample_lists

abbrev at_first : Comes sample_rows None (3 ∷ 0 ∷ 1 ∷ [])
at_first = (drop 1 sample_rows, refl)

module _ (list : List ℕ) (room : 3 ≤ length list) (rule : Rule) (start : List ℕ) where
  gives_row : (here : Option (List ℕ)) (row : List ℕ) (held : List ℕ) → Comes sample_rows here row → Step sample_rows 3 Joined rule here held (given list row) (Some row) held
  gives_row here row held comes = step_gives sample_rows 3 Joined rule here held sample_once list _ row room sample_joined comes refl

  last : IsLast sample_rows (Some (3 ∷ 2 ∷ 4 ∷ []))
  last = (take 4 sample_rows, refl)

  pours_none : (limit letter : ℕ) → EndsFor sample_rows Joined rule limit 0 (Some (3 ∷ 2 ∷ 4 ∷ [])) start letter
      → Step sample_rows 3 Joined rule (Some (3 ∷ 2 ∷ 4 ∷ [])) start (pours limit [] letter) (Some (3 ∷ 2 ∷ 4 ∷ [])) start
  pours_none limit letter ends =
      step_pours sample_rows 3 Joined rule (Some (3 ∷ 2 ∷ 4 ∷ [])) start limit [] letter _ start
      (poured_none sample_rows 3 Joined rule (Some (3 ∷ 2 ∷ 4 ∷ [])) start (take 4 sample_rows, [], refl)) (omega arith) ends

  pub sample_walk : Brings 4 sample rule start (sample_calls list) start
  sample_walk =
      goes_brings 4 sample sample_rows sample_lists rule start start (
      given list (3 ∷ 0 ∷ 1 ∷ [])
      ∷ given list (3 ∷ 0 ∷ 2 ∷ [])
      ∷ given list (3 ∷ 0 ∷ 4 ∷ [])
      ∷ given list (3 ∷ 1 ∷ 2 ∷ [])
      ∷ given list (3 ∷ 2 ∷ 4 ∷ [])
      ∷ refuses list list (at Walk 16 0)
      ∷ pours 1 [] letter_x
      ∷ pours 0 [] letter_l
      ∷ []
      ) (
        gives_row None (3 ∷ 0 ∷ 1 ∷ []) start at_first,
        (
          gives_row (Some (3 ∷ 0 ∷ 1 ∷ [])) (3 ∷ 0 ∷ 2 ∷ []) start ([], drop 2 sample_rows, refl),
          (
            gives_row (Some (3 ∷ 0 ∷ 2 ∷ [])) (3 ∷ 0 ∷ 4 ∷ []) start (take 1 sample_rows, drop 3 sample_rows, refl),
            (
              gives_row (Some (3 ∷ 0 ∷ 4 ∷ [])) (3 ∷ 1 ∷ 2 ∷ []) start (take 2 sample_rows, drop 4 sample_rows, refl),
              (
                gives_row (Some (3 ∷ 1 ∷ 2 ∷ [])) (3 ∷ 2 ∷ 4 ∷ []) start (take 3 sample_rows, [], refl),
                (
                  step_refuses sample_rows 3 Joined rule (Some (3 ∷ 2 ∷ 4 ∷ [])) start list (at Walk 16 0) (no_row_follows room sample_joined last refl),
                  (
                    pours_none 1 letter_x (no_more (omega arith) sample_joined last refl),
                    (
                      pours_none 0 letter_l (at_limit refl refl),
                      refl,
                    ),
                  ),
                ),
              ),
            ),
          ),
        ),
      )

  pub sample_sought : Brings 4 sample rule start (seek_calls list) start
  sample_sought =
      let on : Option (List ℕ) = Some (3 ∷ 1 ∷ 2 ∷ []) in
      goes_brings 4 sample sample_rows sample_lists rule start start (
      finds (3 ∷ 0 ∷ 4 ∷ [])
      ∷ given list (3 ∷ 1 ∷ 2 ∷ [])
      ∷ misses (0 ∷ 3 ∷ 4 ∷ []) (at Walk 13 0)
      ∷ misses (0 ∷ 1 ∷ 4 ∷ []) (at Walk 13 0)
      ∷ given list (3 ∷ 2 ∷ 4 ∷ [])
      ∷ []
      ) (
        step_finds sample_rows 3 Joined rule None start (3 ∷ 0 ∷ 4 ∷ []) (inr (inr (inl refl))),
        (
          gives_row (Some (3 ∷ 0 ∷ 4 ∷ [])) (3 ∷ 1 ∷ 2 ∷ []) start (take 2 sample_rows, drop 4 sample_rows, refl),
          (
            step_misses sample_rows 3 Joined rule on start (0 ∷ 3 ∷ 4 ∷ []) (not_in (0 ∷ 3 ∷ 4 ∷ []) sample_rows refl),
            (
              step_misses sample_rows 3 Joined rule on start (0 ∷ 1 ∷ 4 ∷ []) (not_in (0 ∷ 1 ∷ 4 ∷ []) sample_rows refl),
              (
                gives_row on (3 ∷ 2 ∷ 4 ∷ []) start (take 3 sample_rows, [], refl),
                refl,
              ),
            ),
          ),
        ),
      )

-- the sample network with a keeper of seven places
module _ (list : List ℕ) (room : 3 ≤ length list) where
  pub sample_kept : Brings 4 sample (keeping 7) [] (keeper_calls list) (3 ∷ 3 ∷ 0 ∷ 1 ∷ [])
  sample_kept =
      let first : List ℕ = 3 ∷ 0 ∷ 1 ∷ [] in
      let second : List ℕ = 3 ∷ 0 ∷ 2 ∷ [] in
      let comes : Comes sample_rows (Some first) second = ([], drop 2 sample_rows, refl) in
      goes_brings 4 sample sample_rows sample_lists (keeping 7) [] (3 ∷ first) (pours 5 (first ∷ []) letter_f ∷ given list second ∷ []) (
        step_pours sample_rows 3 Joined (keeping 7) None [] 5 (first ∷ []) letter_f (Some first) (3 ∷ first)
            (record { in_order = at_first; all_taken = (refl, tt); moves = refl; holding = refl }) (omega arith)
            (ends_not_taken sample_rows 3 Joined (keeping 7) (Some first) (3 ∷ first) sample_once 5 1 second (omega arith) sample_joined comes refl),
        (gives_row list room (keeping 7) [] (Some first) second (3 ∷ first) comes, refl),
      )
