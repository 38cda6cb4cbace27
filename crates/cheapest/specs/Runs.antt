-- Runs over the candidates of a plan, as the functions of a walk make them: the words of `Scans` for these
-- candidates and for the row that the walk has built.
use Rattle.std.specs.Prelude.{ℕ, Bool, Option, List, []}
use Rattle.forests.specs.Closures.{push}
use Rattle.forests.specs.Labels.{below}
use Rattle.cheapest.specs.Scans.{ring, matches, grown, Fronts, Placed, Completed, Moved, Matched, Filled, Crosses}
use Rattle.cheapest.specs.declared.candidates.Candidates.{Candidates}
use Rattle.cheapest.specs.declared.walk.Walk.{Walk}
use Rattle.cheapest.specs.Candidates.{start_of, end_of, class_of, number_of}

-- Candidate c would close a ring with the candidates of the row.
abbrev pub ring_in : Candidates → List ℕ → ℕ → Bool
ring_in list row c = ring (start_of list) (end_of list) (push [] row) c

-- The links are those of candidates in their order, none of which closes a ring with those before it.
abbrev pub row_in : Candidates → List ℕ → Bool
row_in list numbers = matches (ring (start_of list) (end_of list)) (number_of list) [] (below list.count) numbers

-- The row that begins with `front` and is completed by the candidates from `next` on.
abbrev pub grown_in : Candidates → List ℕ → ℕ → List ℕ
grown_in list front next = grown (start_of list) (end_of list) list.count front next

-- Up to place d, the walk holds the labels after so many candidates of its row.
abbrev pub FrontsIn : Candidates → Walk → ℕ → Type 0
FrontsIn list walk d = Fronts (start_of list) (end_of list) walk.at walk.labels d

-- The first d entries of the walk's row are candidates, and it holds the labels after each.
abbrev pub BegunIn : Candidates → Walk → ℕ → Type 0
BegunIn list walk d = Placed (start_of list) (end_of list) (λ _. 0) list.count [] walk.at walk.labels d

-- The first d candidates of the walk have the wanted classes.
abbrev pub PlacedIn : Candidates → List ℕ → Walk → ℕ → Type 0
PlacedIn list wanted walk d = Placed (start_of list) (end_of list) (class_of list) list.count wanted walk.at walk.labels d

-- The walk was to complete its first i candidates to the wanted classes by those from `next` on.
abbrev pub CompletedIn : Candidates → List ℕ → Walk → Walk → ℕ → ℕ → Bool → Type 0
CompletedIn list wanted before after i next r =
    Completed (start_of list) (end_of list) (class_of list) list.count wanted before.at i next after.at after.labels r

-- The walk was to go to the last departure of the wanted classes.
abbrev pub MovedIn : Candidates → List ℕ → Walk → Walk → Option ℕ → Type 0
MovedIn list wanted before after r = Moved (start_of list) (end_of list) (class_of list) list.count wanted before.at after.at after.labels r

-- The walk was to find the candidates of the links.
abbrev pub MatchedIn : Candidates → List ℕ → Walk → Bool → Type 0
MatchedIn list numbers walk r = Matched (start_of list) (end_of list) (number_of list) list.count numbers walk.at walk.labels r

-- The walk has completed the front greedily, to a row of length r.
abbrev pub FilledIn : Candidates → List ℕ → Walk → ℕ → Type 0
FilledIn list front walk r = Filled (start_of list) (end_of list) list.count front walk.at walk.labels r

-- Candidate c is another link than the given one, has the class, and closes no ring with the row.
abbrev pub CrossesIn : Candidates → List ℕ → ℕ → ℕ → ℕ → Type 0
CrossesIn list row link wanted c = Crosses (start_of list) (end_of list) (class_of list) (number_of list) row link wanted c
