-- Sets of links or sites as numbers: 0 is in the set if the number is odd, and so on.
use Rattle.std.specs.Prelude.{ℕ, ◌/◌, ◌%◌, ◌^◌, Bool, ◌==◌}

-- whether the set has this member
abbrev pub has : (set member : ℕ) → Bool
has set member = (set / 2 ^ member) % 2 == 1
