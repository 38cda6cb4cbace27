-- What a program shows of a single call to obey its law: the row that comes, or why none does; and a pour row
-- by row.
use Rattle.std.proofs.Common.{◌≡◌, ℕ, ◌<◌, ◌≤◌, List, [], ◌∷◌, ◌++◌, length, drop, Some, Option, sym, refl, ap, ◌∙◌, subst, subst₂}
use Rattle.forests.specs.Lists.{In, Different}
use Rattle.networks.specs.Refusals.{at}
use Rattle.networks.specs.declared.refusals.Layer.TheVariants.{Walk}
use Rattle.networks.specs.declared.refusals.Report.{Report}
use Rattle.walks.specs.Places.{NextMembers, Comes}
use Rattle.receivers.specs.Rules.{Rule, held_after}
use Rattle.walks.specs.Taking.{Takes, Declines}
use Rattle.walks.specs.Events.{gives, refuses, pours, finds, misses}
use Rattle.walks.specs.Answering.{RefusedFor, EndsFor, not_taken, letter_f}
use Rattle.walks.specs.Steps.{Step, SoFar}
use Rattle.walks.proofs.Members.{last_append, next_more, not_last}
use Rattle.walks.proofs.Offered.{holds_append, taken_push}

module _ (L : List (List ℕ)) (size : ℕ) (J : Type 0) (rule : Rule) (here : Option (List ℕ)) (held : List ℕ) where
  pub step_gives : Different L → (list after row : List ℕ) → size ≤ length list → J → Comes L here row → after ≡ row ++ drop (length row) list
      → Step L size J rule here held (gives list after row) (Some row) held
  step_gives once list after row room joined comes writes = record {
    in_order = comes;
    answered = record { room = room; joined = joined; not_last = not_last L once here row [] comes; writes = writes };
    moves = refl;
    holding = refl;
  }

  pub step_refuses : (list : List ℕ) (why : Report) → RefusedFor L size J here list why → Step L size J rule here held (refuses list list why) here held
  step_refuses list why reason = record { in_order = tt; answered = (refl, reason); moves = refl; holding = refl }

  pub step_finds : (row : List ℕ) → In row L → Step L size J rule here held (finds row) (Some row) held
  step_finds row m = record { in_order = tt; answered = m; moves = refl; holding = refl }

  pub step_misses : (row : List ℕ) → (In row L → ⊥) → Step L size J rule here held (misses row (at Walk 13 0)) here held
  step_misses row m = record { in_order = tt; answered = (m, refl); moves = refl; holding = refl }

  -- a pour: nothing poured yet, one more row, and the end
  pub poured_none : NextMembers L here [] → SoFar L rule here held [] here held
  poured_none n = record { in_order = n; all_taken = tt; moves = refl; holding = refl }

  pub poured_more : Different L → (rows : List (List ℕ)) (row : List ℕ) (here' : Option (List ℕ)) (held' : List ℕ) → SoFar L rule here held rows here' held'
      → Comes L here' row → Takes rule held' row → SoFar L rule here held (rows ++ (row ∷ [])) (Some row) (held_after rule held' row)
  poured_more once rows row here' held' s comes takes = record {
    in_order = next_more L once here rows (row ∷ []) s.in_order (subst (λ z. Comes L z row) s.moves comes);
    all_taken = taken_push rule held rows row s.all_taken (subst (λ h. Takes rule h row) s.holding takes);
    moves = sym (last_append here rows (row ∷ []));
    holding = ap (λ h. held_after rule h row) s.holding ∙ sym (holds_append rule held rows (row ∷ []));
  }

  pub ends_not_taken : Different L → (limit count : ℕ) (row : List ℕ) → count < limit → J → Comes L here row → Declines rule held row
      → EndsFor L J rule limit count here held letter_f
  ends_not_taken once limit count row less joined comes declines = not_taken less joined (not_last L once here row [] comes) row comes declines refl

  pub step_pours : (limit : ℕ) (rows : List (List ℕ)) (letter : ℕ) (here' : Option (List ℕ)) (held' : List ℕ) → SoFar L rule here held rows here' held'
      → length rows ≤ limit → EndsFor L J rule limit (length rows) here' held' letter → Step L size J rule here held (pours limit rows letter) here' held'
  step_pours limit rows letter here' held' s within ends = record {
    in_order = s.in_order;
    answered = record {
      within = within;
      all_taken = s.all_taken;
      ends = subst₂ (λ a b. EndsFor L J rule limit (length rows) a b letter) s.moves s.holding ends;
    };
    moves = s.moves;
    holding = s.holding;
  }
