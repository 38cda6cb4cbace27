use Rattle.std.proofs.Common.{◌≡◌, ℕ, ◌<◌, ◌≤◌, length, get_or}
use Rattle.cheapest.specs.Places.{candidate_at}
use Rattle.cheapest.proofs.reading.read_row.Given as goal

abbrev pub invariant-loop-j : goal.invariant-loop-j
invariant-loop-j g l = (length l.out ≡ 64)
    × ((k : ℕ) → k < l.initial.j → get_or l.out k 0 ≡ get_or l.initial.out k 0)
    × ((k : ℕ) → (l.initial.j ≤ k) × (k < l.j) → goal.F-post g l.ask (candidate_at l.list.items (get_or l.at k 0)) (get_or l.out k 0))
