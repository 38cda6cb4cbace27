-- The links that a network of so many sites can have as its first, and how many networks of such links there are.
use Rattle.std.specs.Prelude.{ℕ, zero, suc, ◌+◌, ◌*◌, ◌<◌, List, [], ◌∷◌, ◌++◌, length}
use Rattle.exhaustive.specs.declared.cases.Drawn.{Drawn}

-- what is chosen of a link: its two sites, and its metres
pub record Choice : Type 0 where
  pub from : ℕ
  pub to : ℕ
  pub metres : ℕ

-- what was chosen of a link
abbrev pub choice_of : Drawn → Choice
choice_of link = record { from = link.from; to = link.to; metres = link.metres }

-- the choice of these two sites and these metres
abbrev pub choice : (from to metres : ℕ) → Choice
choice from to metres = record { from = from; to = to; metres = metres }

-- a link from one of so many sites to a later one, of 0 to 2 metres
abbrev pub IsChoice : (sites : ℕ) → Choice → Type 0
IsChoice sites c = (c.from < c.to) × (c.to < sites) × (c.metres < 3)

-- the choices between two sites: 0, 1 and 2 metres
abbrev pub between : (from to : ℕ) → List Choice
between from to = choice from to 0 ∷ choice from to 1 ∷ choice from to 2 ∷ []

-- the choices between each of the first so many sites and this one
abbrev pub back : (many to : ℕ) → List Choice
back zero to = []
back (suc from) to = back from to ++ between from to

-- the choices between any two of so many sites
abbrev pub choices_of : (sites : ℕ) → List Choice
choices_of zero = []
choices_of (suc to) = choices_of to ++ back to to

-- how many lists of at most so many links there are, where each link is one of so many choices
abbrev pub lists_of : (choices most : ℕ) → ℕ
lists_of choices zero = 1
lists_of choices (suc most) = 1 + choices * lists_of choices most

-- how many networks of 1 to so many sites there are, of at most four links
abbrev pub networks_to : (sites : ℕ) → ℕ
networks_to zero = 0
networks_to (suc sites) = networks_to sites + lists_of (length (choices_of (suc sites))) 4
