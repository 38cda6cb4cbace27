-- The rows that are printed of a network, and the lines around them.
use Rattle.std.specs.Prelude.{◌≡◌, ℕ, ◌≤◌, List, [], ◌∷◌, ◌++◌, map, length, codes, decimal}
use Rattle.forests.specs.Graphs.{SitesJoined}
use Rattle.forests.specs.Lists.{In}
use Rattle.weights.specs.Scales.{sum_of, Weighing}
use Rattle.networks.specs.Networks.{sites_of, links_of, network_graph, weights_of}
use Rattle.networks.specs.declared.networks.Network.{Network}
use Rattle.receivers.specs.Writing.{line_of}
use Rattle.walks.specs.Answering.{letter_l, letter_z, letter_x}
use Rattle.walks.specs.Walks.{Listed}
use Rattle.reports.specs.Answers.{sound_line}

-- the text writer's lines, one behind the other
abbrev pub lines_of : List (List ℕ) → List ℕ
lines_of [] = []
lines_of (row ∷ rows) = line_of row ++ lines_of rows

-- The rows that are printed of the full list L where J says that the sites are joined, and the letter of the ending.
pub data Printed (L : List (List ℕ)) (J : Type 0) (rows : List (List ℕ)) (letter : ℕ) : Type 0 where
  -- the sites are not joined, and there is no row
  no_tree : (J → ⊥) → rows ≡ [] → letter ≡ letter_z → Printed L J rows letter
  -- all rows, which are at most 1,000
  all : J → length rows ≤ 1000 → L ≡ rows → letter ≡ letter_x → Printed L J rows letter
  -- the first 1,000, where a row follows
  first : J → length rows ≡ 1000 → (row : List ℕ) (after : List (List ℕ)) → L ≡ rows ++ (row ∷ after) → letter ≡ letter_l → Printed L J rows letter

-- the last line, as `trees 5 each 5 ended X`
abbrev pub last_line : ℕ → List ℕ → ℕ → List ℕ
last_line count each letter = codes "trees " ++ (decimal count ++ (codes " each " ++ (each ++ (codes " ended " ++ (letter ∷ 10 ∷ [])))))

-- What is printed of a network, where totals are printed as `shown` says: sites and links, the lines of the rows, and
-- the last line with their number, the total of each (a dash where there is none) and the ending.
pub record Report {K : Type 0} (kind : Weighing K) (shown : kind.scale.Amount → List ℕ) (n : Network K) (text : List ℕ) : Type 0 where
  pub full : List (List ℕ)
  pub listed : Listed kind n full
  pub rows : List (List ℕ)
  pub letter : ℕ
  pub printed : Printed full (SitesJoined (network_graph n)) rows letter
  pub each : List ℕ
  pub dash : rows ≡ [] → each ≡ codes "-"
  pub total : (row : List ℕ) → In row rows → each ≡ shown (sum_of kind.scale (map (weights_of kind n) row))
  pub whole : text ≡ (sound_line (sites_of n) (length (links_of n)) ++ (10 ∷ [])) ++ (lines_of rows ++ last_line (length rows) each letter)
