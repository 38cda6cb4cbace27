-- What is held in places that are used from the front, and what is left of them.
use Rattle.std.specs.Prelude.{ℕ, List, length, take, drop}
use Rattle.receivers.specs.declared.places.Places.{Places}

module _ {T : Type 0} where
  -- how many places there are
  abbrev pub room_in : Places T → ℕ
  room_in p = length p.cells.now

  -- what stands in the places used
  abbrev pub held_in : Places T → List T
  held_in p = take p.used p.cells.now

  -- the places not used so far, as they stand
  abbrev pub spare_in : Places T → List T
  spare_in p = drop p.used p.cells.now
