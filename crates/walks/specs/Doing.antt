-- What one call does: what it answers, what it leaves in a passed list, and where the walk and the receiver
-- stand afterwards. L is the full list, `size` the entries of a row, J says that the sites are joined, and
-- `here` is the row that the walk is on, or None before the list.
use Rattle.std.specs.Prelude.{◌≡◌, ℕ, List, length, Some, None, Ok, Err, Option, Result}
use Rattle.forests.specs.Lists.{In}
use Rattle.networks.specs.Refusals.{at}
use Rattle.networks.specs.declared.refusals.Layer.TheVariants.{Walk}
use Rattle.networks.specs.declared.refusals.Report.{Report}
use Rattle.receivers.specs.Rules.{Rule, held_after, held_after_all}
use Rattle.walks.specs.Places.{Comes, IsLast, NextMembers, last_of}
use Rattle.walks.specs.Taking.{Takes, Declines}
use Rattle.walks.specs.Answering.{Gives, RefusedFor, Pours}
use Rattle.walks.specs.declared.endings.Ending.{Ending}
use Rattle.walks.specs.declared.endings.Ending.TheVariants.{LimitReached, NotJoined, NoneFollows, NotTaken}

-- Next that was not refused writes the row that comes after here, and the walk is then on it; one that was
-- refused leaves list and walk.
abbrev pub NextDoes : (L : List (List ℕ)) (size : ℕ) (J : Type 0) (here : Option (List ℕ)) (list after : List ℕ) (said : Option Report) (here' : Option (List ℕ)) → Type 0
NextDoes L size J here list after None here' = (row : List ℕ) × Comes L here row × Gives L size J here list after row × (here' ≡ Some row)
NextDoes L size J here list after (Some why) here' = (after ≡ list) × RefusedFor L size J here list why × (here' ≡ here)

-- Seek accepts exactly the rows of the full list, and the walk is then on the row; a refusal leaves the walk.
abbrev pub SeekDoes : (L : List (List ℕ)) (here : Option (List ℕ)) (row : List ℕ) (said : Option Report) (here' : Option (List ℕ)) → Type 0
SeekDoes L here row None here' = In row L × (here' ≡ Some row)
SeekDoes L here row (Some why) here' = (In row L → ⊥) × (why ≡ at Walk 13 0) × (here' ≡ here)

-- A pour of so many rows takes the full list's next members, and ends for the reason that its letter says.
abbrev pub PourDoes : (L : List (List ℕ)) (J : Type 0) (rule : Rule) (here : Option (List ℕ)) (held : List ℕ) (limit count letter : ℕ) (here' : Option (List ℕ)) (held' : List ℕ) → Type 0
PourDoes L J rule here held limit count letter here' held' =
    (rows : List (List ℕ)) × (length rows ≡ count) × NextMembers L here rows × Pours L J rule here held limit rows letter
    × (here' ≡ last_of here rows) × (held' ≡ held_after_all rule held rows)

-- One row is offered. It is taken, and the walk is then on it; or the pour ends, and nothing is altered.
abbrev pub OfferDoes : (L : List (List ℕ)) (J : Type 0) (rule : Rule) (here : Option (List ℕ)) (held : List ℕ) (said : Result (Unit {0}) Ending) (here' : Option (List ℕ)) (held' : List ℕ) → Type 0
OfferDoes L J rule here held (Ok done) here' held' =
    J × ((row : List ℕ) × Comes L here row × Takes rule held row × (here' ≡ Some row) × (held' ≡ held_after rule held row))
OfferDoes L J rule here held (Err LimitReached) here' held' = ⊥
OfferDoes L J rule here held (Err NotJoined) here' held' = (J → ⊥) × (here' ≡ here) × (held' ≡ held)
OfferDoes L J rule here held (Err NoneFollows) here' held' = J × IsLast L here × (here' ≡ here) × (held' ≡ held)
OfferDoes L J rule here held (Err NotTaken) here' held' =
    J × ((row : List ℕ) × Comes L here row × Declines rule held row) × (here' ≡ here) × (held' ≡ held)
