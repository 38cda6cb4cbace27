-- When the answer of a call is the right one. All speak of the full list L, the entries `size` of a row, the
-- statement J that the sites are joined, the latest row given or sought, and the receiver's taking rule.
use Rattle.std.specs.Prelude.{◌≡◌, ℕ, ◌<◌, ◌≤◌, List, ◌++◌, length, drop, Option}
use Rattle.forests.specs.Lists.{In}
use Rattle.networks.specs.Refusals.{at}
use Rattle.networks.specs.declared.refusals.Layer.TheVariants.{Walk}
use Rattle.networks.specs.declared.refusals.Report.{Report}
use Rattle.walks.specs.Places.{Comes, IsLast, last_of}
use Rattle.receivers.specs.Rules.{Rule, held_after_all}
use Rattle.walks.specs.Taking.{Declines, AllTaken}
use Rattle.walks.specs.Events.{Event, gives, refuses, pours, finds, misses}

-- The letters by which a pour says why it ended, as character codes.
abbrev pub letter_l : ℕ
letter_l = 76

abbrev pub letter_z : ℕ
letter_z = 90

abbrev pub letter_x : ℕ
letter_x = 88

abbrev pub letter_f : ℕ
letter_f = 70

-- Next may give a row: the list has room for one, the sites are joined, and the latest row is not the last.
-- The row then stands in the first places of the list, and the rest is untouched.
pub record Gives (L : List (List ℕ)) (size : ℕ) (J : Type 0) (here : Option (List ℕ)) (list after row : List ℕ) : Type 0 where
  pub room : size ≤ length list
  pub joined : J
  pub not_last : IsLast L here → ⊥
  pub writes : after ≡ row ++ drop (length row) list

-- The reasons for which next is refused, in the order in which they are tried.
pub data RefusedFor (L : List (List ℕ)) (size : ℕ) (J : Type 0) (here : Option (List ℕ)) (list : List ℕ) (why : Report) : Type 0 where
  -- the list is shorter than a row, even if no row comes
  short_list : length list < size → why ≡ at Walk 10 (length list) → RefusedFor L size J here list why
  -- the sites are not joined
  not_joined : size ≤ length list → (J → ⊥) → why ≡ at Walk 15 0 → RefusedFor L size J here list why
  -- the latest row is the last
  no_row_follows : size ≤ length list → J → IsLast L here → why ≡ at Walk 16 0 → RefusedFor L size J here list why

-- The reasons for which a pour ends, in the order in which they are tried: so many rows were taken, the
-- latest row is here, and this is what the receiver holds.
pub data EndsFor (L : List (List ℕ)) (J : Type 0) (rule : Rule) (limit count : ℕ)
    (here : Option (List ℕ)) (held : List ℕ) (letter : ℕ) : Type 0 where
  -- the limit is reached
  at_limit : count ≡ limit → letter ≡ letter_l → EndsFor L J rule limit count here held letter
  -- the sites are not joined
  no_tree : count < limit → (J → ⊥) → letter ≡ letter_z → EndsFor L J rule limit count here held letter
  -- the latest row is the last
  no_more : count < limit → J → IsLast L here → letter ≡ letter_x → EndsFor L J rule limit count here held letter
  -- a row follows, and the receiver does not take it
  not_taken : count < limit → J → (IsLast L here → ⊥) → (row : List ℕ) → Comes L here row → Declines rule held row
      → letter ≡ letter_f → EndsFor L J rule limit count here held letter

-- A pour takes no more rows than its limit, the receiver's rule takes each in its turn, and the pour ends
-- for the reason that its letter says.
pub record Pours (L : List (List ℕ)) (J : Type 0) (rule : Rule) (here : Option (List ℕ)) (held : List ℕ)
    (limit : ℕ) (rows : List (List ℕ)) (letter : ℕ) : Type 0 where
  pub within : length rows ≤ limit
  pub all_taken : AllTaken rule held rows
  pub ends : EndsFor L J rule limit (length rows) (last_of here rows) (held_after_all rule held rows) letter

-- The answer of one call, and what it leaves in a passed list, are the right ones where `here` is the latest
-- row given or sought and the receiver holds `held`.
abbrev pub Answered : (L : List (List ℕ)) (size : ℕ) (J : Type 0) (rule : Rule) (here : Option (List ℕ)) (held : List ℕ) → Event → Type 0
Answered L size J rule here held (gives list after row) = Gives L size J here list after row
Answered L size J rule here held (refuses list after why) = (after ≡ list) × RefusedFor L size J here list why
Answered L size J rule here held (pours limit rows letter) = Pours L J rule here held limit rows letter
Answered L size J rule here held (finds row) = In row L
Answered L size J rule here held (misses row why) = (In row L → ⊥) × (why ≡ at Walk 13 0)
