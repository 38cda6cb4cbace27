-- What calls on a walk bring.
use Rattle.std.specs.Prelude.{◌≡◌, ℕ, List, map}
use Rattle.weights.specs.Weighings.{by_metres}
use Rattle.weights.specs.declared.metres.Metres.{Metres}
use Rattle.networks.specs.declared.networks.Network.{Network}
use Rattle.receivers.specs.Rules.{Rule}
use Rattle.walks.specs.Calls.{Asked}
use Rattle.walks.specs.Promises.{Promised}
use Rattle.walks.specs.Turns.{Heard, asked, heard}
use Rattle.walks.specs.declared.turns.Turn.{Turn}
use Rattle.worked.specs.Drawn.{Drawn, Draws}

-- A call with what it is passed, its answer, and the same call with what was left in what it was passed.
abbrev pub Exchanged : Type 0
Exchanged = Asked × Heard × Asked

-- On every network with so many sites and these links, a walk just begun, with a receiver of this taking rule
-- that holds `start`, gives these answers to these calls and leaves these lists; the receiver then holds `held`.
abbrev pub Brings : (sites : ℕ) (links : List Drawn) (rule : Rule) (start : List ℕ) (calls : List Exchanged) (held : List ℕ) → Type 0
Brings sites links rule start calls held =
    (n : Network Metres) → Draws sites links n → (held' : List ℕ) (before after : List Turn)
    → Promised by_metres n rule start held' before after → asked before ≡ map (λ call. call.0) calls
    → (heard after ≡ map (λ call. call.1) calls) × (asked after ≡ map (λ call. call.2) calls) × (held' ≡ held)

-- The turns were performed on the network, and bring whatever calls are shown to bring on networks so drawn.
abbrev pub BringsShown : (n : Network Metres) (rule : Rule) (start held' : List ℕ) (before after : List Turn) → Type 0
BringsShown n rule start held' before after =
    (sites : ℕ) (links : List Drawn) (calls : List Exchanged) (held : List ℕ) → Draws sites links n → Brings sites links rule start calls held
    → asked before ≡ map (λ call. call.0) calls
    → (heard after ≡ map (λ call. call.1) calls) × (asked after ≡ map (λ call. call.2) calls) × (held' ≡ held)
