-- What stands at a place: a link of a plan by its number, a candidate by its rank.
use Rattle.std.specs.Prelude.{ℕ, false, List, slice_index_or}
use Rattle.cheapest.specs.declared.plan.PlanLink.{PlanLink}
use Rattle.cheapest.specs.declared.candidates.Candidate.{Candidate}

-- What is read past the last place: a link that cannot be chosen.
abbrev pub no_link : PlanLink
no_link = record { from = 0; to = 0; mark = 0; usable = false }

abbrev pub no_candidate : Candidate
no_candidate = record { number = 0; start = 0; end = 0; class = 0 }

abbrev pub link_at : List PlanLink → ℕ → PlanLink
link_at links e = slice_index_or links e no_link

abbrev pub candidate_at : List Candidate → ℕ → Candidate
candidate_at items c = slice_index_or items c no_candidate
