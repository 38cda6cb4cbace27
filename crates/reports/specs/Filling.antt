-- How a listing goes on: rows are poured as lines into places, which are put out, again and again. L is the full list,
-- and J says that the sites are joined.
use Rattle.std.specs.Prelude.{◌≡◌, ℕ, ◌<◌, Bool, true, false, ◌⊎◌, List, length, Some, None, Option}
use Rattle.forests.specs.Graphs.{SitesJoined}
use Rattle.forests.specs.Lists.{In}
use Rattle.weights.specs.Scales.{Weighing}
use Rattle.networks.specs.Networks.{network_graph}
use Rattle.walks.specs.Answering.{letter_l, letter_z, letter_x, letter_f}
use Rattle.walks.specs.Places.{NextMembers, Comes, IsLast, last_of}
use Rattle.walks.specs.Walks.{network_of, place_of, Listed}
use Rattle.walks.specs.declared.walks.Walk.{Walk}
use Rattle.reports.specs.Listing.{lines_of, Printed}
use Rattle.reports.specs.Sinks.{PutOut}

-- Why no more rows are listed: so many were, the sites are not joined, or the latest row is the last.
pub data Stops (L : List (List ℕ)) (J : Type 0) (limit count : ℕ) (here : Option (List ℕ)) (letter : ℕ) : Type 0 where
  at_limit : count ≡ limit → letter ≡ letter_l → Stops L J limit count here letter
  no_tree : (J → ⊥) → letter ≡ letter_z → Stops L J limit count here letter
  no_more : J → IsLast L here → letter ≡ letter_x → Stops L J limit count here letter

-- The text is the lines of so many rows that come next; it ends because a line did not fit, or for another reason.
abbrev pub Fills : (L : List (List ℕ)) (J : Type 0) (here : Option (List ℕ)) (limit count letter : ℕ) (here' : Option (List ℕ)) (text : List ℕ) → Type 0
Fills L J here limit count letter here' text =
    (rows : List (List ℕ)) × (length rows ≡ count) × NextMembers L here rows × (here' ≡ last_of here rows) × (text ≡ lines_of rows)
    × ((letter ≡ letter_f) ⊎ Stops L J limit count here' letter)

module _ {K : Type 0} (kind : Weighing K) (before after : Walk K) where
  -- Every full list of the network that is walked through has the property.
  abbrev pub OfFullList : ((L : List (List ℕ)) (J : Type 0) → Type 0) → Type 0
  OfFullList P = (L : List (List ℕ)) → Listed kind (network_of before) L → P L (SitesJoined (network_graph (network_of before)))

  -- Places were filled with lines.
  abbrev pub FillsPlaces : (limit count letter : ℕ) (text : List ℕ) → Type 0
  FillsPlaces limit count letter text = OfFullList (λ L J. Fills L J (place_of before) limit count letter (place_of after) text)

  -- Whether a row follows is answered; if so the walk is then on it.
  abbrev pub SaysFollows : Bool → Type 0
  SaysFollows true = OfFullList (λ L J. (row : List ℕ) × Comes L (place_of before) row × (place_of after ≡ Some row))
  SaysFollows false = OfFullList (λ L J. ((J → ⊥) ⊎ IsLast L (place_of before)) × (place_of after ≡ place_of before))

  module _ {S : Type 0} (took : S → List ℕ → S → Type 0) (start end : S) where
    -- The places were put out.
    abbrev pub PutsRows : (limit count letter : ℕ) → Type 0
    PutsRows limit count letter = (text : List ℕ) × FillsPlaces limit count letter text × took start text end

    -- The lines of the first so many rows were put out.
    abbrev pub ListsRows : (limit count letter : ℕ) → Type 0
    ListsRows limit count letter = OfFullList (λ L J.
        (rows : List (List ℕ)) × (length rows ≡ count) × NextMembers L None rows × (place_of after ≡ last_of None rows)
        × PutOut took start (lines_of rows) end × Stops L J limit count (place_of after) letter)

    -- The lines of the rows that are printed were put out, and where there are any the walk is on a row.
    abbrev pub ListsPrinted : (count letter : ℕ) → Type 0
    ListsPrinted count letter = OfFullList (λ L J.
        (rows : List (List ℕ)) × (length rows ≡ count) × PutOut took start (lines_of rows) end × Printed L J rows letter
        × (0 < count → (row : List ℕ) × (place_of after ≡ Some row) × In row L))
