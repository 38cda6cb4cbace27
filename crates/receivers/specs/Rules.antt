-- Taking rules. A rule says, from what is held and a row, what is held afterwards if the row is taken.
use Rattle.std.specs.Prelude.{◌≡◌, ℕ, ◌-◌, Bool, List, [], ◌∷◌, ◌++◌, length, drop, is_some, Option, nat_le}
use Rattle.std.specs.Borrow.{GName}
use Rattle.std.specs.Option.{unwrap_or}

-- from what is held and a row, what is held afterwards; nothing where the row is not taken
abbrev pub Rule : Type 0
Rule = List ℕ → List ℕ → Option (List ℕ)

-- whether the row has at most 63 entries, as each row that keeper, tally and text writer take
abbrev pub few_entries : List ℕ → Bool
few_entries row = nat_le (length row) 63

-- whether the rule takes the row
abbrev pub takes : Rule → List ℕ → List ℕ → Bool
takes rule held row = is_some (rule held row)

-- what is held after the row was offered: what the rule says, or as before where it is not taken
abbrev pub held_after : Rule → List ℕ → List ℕ → List ℕ
held_after rule held row = unwrap_or (rule held row) held

-- what is held after rows were offered one by one
abbrev pub held_after_all : Rule → List ℕ → List (List ℕ) → List ℕ
held_after_all rule held [] = held
held_after_all rule held (row ∷ rows) = held_after_all rule (held_after rule held row) rows

-- a passed list once it is given back: what is held, and behind it the places as they stood
abbrev pub with_places_given_back : List ℕ → List ℕ → List ℕ
with_places_given_back cells held = held ++ drop (length held) cells

-- the second list is the end of the first
abbrev pub EndOf : List ℕ → List ℕ → Type 0
EndOf whole part = part ≡ drop (length whole - length part) whole

-- what no call alters of a receiver: its rule and its lender stay, and the places that it has not used are the end of
-- those that it had not used before
pub record Serves {R : Type 0} (rule_of : R → Rule) (spare_of : R → List ℕ) (lender_of : R → List GName) (before after : R) : Type 0 where
  pub rule : rule_of after ≡ rule_of before
  pub spare : EndOf (spare_of before) (spare_of after)
  pub lender : lender_of after ≡ lender_of before
