-- The letters by which a pour says why it ended.
use Rattle.std.specs.Prelude.{ℕ}
use Rattle.walks.specs.Answering.{letter_l, letter_z, letter_x, letter_f}
use Rattle.walks.specs.declared.endings.Ending.{Ending}
use Rattle.walks.specs.declared.endings.Ending.TheVariants.{LimitReached, NotJoined, NoneFollows, NotTaken}

-- The letter of each ending, as its character code.
abbrev pub letter_of : Ending → ℕ
letter_of LimitReached = letter_l
letter_of NotJoined = letter_z
letter_of NoneFollows = letter_x
letter_of NotTaken = letter_f
