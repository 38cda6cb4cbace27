-- What the candidates of a plan say, by their places.
use Rattle.std.specs.Prelude.{ℕ}
use Rattle.cheapest.specs.Places.{candidate_at}
use Rattle.cheapest.specs.declared.candidates.Candidates.{Candidates}

-- The link that a candidate is.
abbrev pub number_of : Candidates → ℕ → ℕ
number_of list c = (candidate_at list.items c).number

-- Its ends.
abbrev pub start_of : Candidates → ℕ → ℕ
start_of list c = (candidate_at list.items c).start

abbrev pub end_of : Candidates → ℕ → ℕ
end_of list c = (candidate_at list.items c).end

-- Its mark.
abbrev pub class_of : Candidates → ℕ → ℕ
class_of list c = (candidate_at list.items c).class
