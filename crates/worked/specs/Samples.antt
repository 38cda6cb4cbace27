-- The networks of the worked examples, and calls on walks through them.
use Rattle.std.specs.Prelude.{ℕ, List, [], ◌∷◌, drop}
use Rattle.networks.specs.Refusals.{at}
use Rattle.networks.specs.declared.refusals.Layer.TheVariants.{Walk}
use Rattle.walks.specs.Answering.{letter_l, letter_z, letter_x, letter_f}
use Rattle.walks.specs.Calls.{next, pour, seek}
use Rattle.walks.specs.Turns.{done, refused, poured}
use Rattle.worked.specs.Brought.{Exchanged}
use Rattle.worked.specs.Drawn.{Drawn}
use Rattle.worked.specs.declared.opened.Example.{Example}
use Rattle.worked.specs.declared.opened.Example.TheVariants.{OneSite, TwoSites, Sample, Triangle, Twins, Rivals}

-- The sample network of four sites.
abbrev pub sample : List Drawn
sample = (0, 1, 2) ∷ (1, 2, 2) ∷ (0, 2, 2) ∷ (2, 3, 1) ∷ (1, 3, 2) ∷ []

abbrev pub sample_rows : List (List ℕ)
sample_rows = (3 ∷ 0 ∷ 1 ∷ []) ∷ (3 ∷ 0 ∷ 2 ∷ []) ∷ (3 ∷ 0 ∷ 4 ∷ []) ∷ (3 ∷ 1 ∷ 2 ∷ []) ∷ (3 ∷ 2 ∷ 4 ∷ []) ∷ []

-- A triangle with one short side.
abbrev pub triangle : List Drawn
triangle = (0, 1, 1) ∷ (1, 2, 2) ∷ (0, 2, 2) ∷ []

-- Two links between the same two sites, of one length and of two.
abbrev pub twins : List Drawn
twins = (0, 1, 7) ∷ (0, 1, 7) ∷ []

abbrev pub rivals : List Drawn
rivals = (0, 1, 7) ∷ (0, 1, 8) ∷ []

-- How many sites and which links the network of an example has.
abbrev pub sites_in : Example → ℕ
sites_in OneSite = 1
sites_in TwoSites = 2
sites_in Sample = 4
sites_in Triangle = 3
sites_in Twins = 2
sites_in Rivals = 2

abbrev pub links_in : Example → List Drawn
links_in OneSite = []
links_in TwoSites = []
links_in Sample = sample
links_in Triangle = triangle
links_in Twins = twins
links_in Rivals = rivals

-- Calls with their answers, each next passed the same list. On one site: the empty row, and then none follows.
abbrev pub one_site_calls : List ℕ → List Exchanged
one_site_calls list = (next list, done, next list) ∷ (next list, refused (at Walk 16 0), next list) ∷ []

-- On two sites: they are not joined.
abbrev pub two_sites_calls : List ℕ → List Exchanged
two_sites_calls list = (next list, refused (at Walk 15 0), next list) ∷ (pour 3, poured 0 letter_z, pour 3) ∷ []

-- On the sample: five rows, and then none follows. A pour says so too, unless its limit is reached first.
abbrev pub sample_calls : List ℕ → List Exchanged
sample_calls list =
    (next list, done, next (3 ∷ 0 ∷ 1 ∷ drop 3 list))
    ∷ (next list, done, next (3 ∷ 0 ∷ 2 ∷ drop 3 list))
    ∷ (next list, done, next (3 ∷ 0 ∷ 4 ∷ drop 3 list))
    ∷ (next list, done, next (3 ∷ 1 ∷ 2 ∷ drop 3 list))
    ∷ (next list, done, next (3 ∷ 2 ∷ 4 ∷ drop 3 list))
    ∷ (next list, refused (at Walk 16 0), next list)
    ∷ (pour 1, poured 0 letter_x, pour 1)
    ∷ (pour 0, poured 0 letter_l, pour 0)
    ∷ []

-- On the sample, with a keeper that has room for one row only: next gives the second.
abbrev pub keeper_calls : List ℕ → List Exchanged
keeper_calls list = (pour 5, poured 1 letter_f, pour 5) ∷ (next list, done, next (3 ∷ 0 ∷ 2 ∷ drop 3 list)) ∷ []

-- On the sample: a row is sought, and next gives the one after it. A row in another order and the row of a
-- dearer tree are not listed, and leave the walk where it is.
abbrev pub seek_calls : List ℕ → List Exchanged
seek_calls list =
    (seek (3 ∷ 0 ∷ 4 ∷ []), done, seek (3 ∷ 0 ∷ 4 ∷ []))
    ∷ (next list, done, next (3 ∷ 1 ∷ 2 ∷ drop 3 list))
    ∷ (seek (0 ∷ 3 ∷ 4 ∷ []), refused (at Walk 13 0), seek (0 ∷ 3 ∷ 4 ∷ []))
    ∷ (seek (0 ∷ 1 ∷ 4 ∷ []), refused (at Walk 13 0), seek (0 ∷ 1 ∷ 4 ∷ []))
    ∷ (next list, done, next (3 ∷ 2 ∷ 4 ∷ drop 3 list))
    ∷ []
