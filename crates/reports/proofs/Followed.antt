-- Whether a row follows the printed ones.
use Rattle.std.proofs.Common.{◌≡◌, ℕ, ◌⊎◌, List, length, is_ok, Ok, Err, Option, Result, inl, inr, arith}
use Rattle.forests.specs.Graphs.{SitesJoined}
use Rattle.weights.specs.Scales.{Weighing}
use Rattle.networks.specs.Networks.{network_graph}
use Rattle.networks.specs.Refusals.{refusal_of}
use Rattle.networks.specs.declared.refusals.Refusal.{Refusal}
use Rattle.walks.specs.Acts.{NextActs}
use Rattle.walks.specs.Answering.{RefusedFor, short_list, not_joined, no_row_follows}
use Rattle.walks.specs.Places.{IsLast}
use Rattle.walks.specs.Walks.{network_of, place_of, row_size, Begun}
use Rattle.walks.specs.declared.walks.Walk.{Walk}
use Rattle.reports.specs.Filling.{SaysFollows}

-- Next with room for every row answers whether a row follows.
module _ {K : Type 0} (kind : Weighing K) (before after : Walk K) (list list' : List ℕ) (begun : Begun kind before) (room : length list ≡ 64) where
  why_not : (L : List (List ℕ)) (J : Type 0) (here : Option (List ℕ)) {why : _} → RefusedFor L (row_size (network_of before)) J here list why → (J → ⊥) ⊎ IsLast L here
  why_not L J here (short_list few e) = absurd (let most = (network_of before).few in omega arith)
  why_not L J here (not_joined few j e) = inl j
  why_not L J here (no_row_follows few j last e) = inr last

  pub says_follows : (r : Result (Unit {0}) Refusal) → NextActs kind before after list list' (refusal_of r) → SaysFollows kind before after (is_ok r)
  says_follows (Ok x) acts = λ L full. let (row, comes, gives, place) = acts begun L full in (row, comes, place)
  says_follows (Err e) acts = λ L full.
      let (same, why, place) = acts begun L full in
      (why_not L (SitesJoined (network_graph (network_of before))) (place_of before) why, place)
