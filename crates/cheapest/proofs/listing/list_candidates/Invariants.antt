use Rattle.cheapest.proofs.Selection.{Selected}
use Rattle.cheapest.proofs.listing.list_candidates.Given as goal

-- the usable links of those so far
abbrev pub invariant-loop-number : goal.invariant-loop-number
invariant-loop-number l = Selected l.fn.plan l.number-index l.items l.count
