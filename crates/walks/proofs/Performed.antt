-- Single calls as events.
use Rattle.std.proofs.Common.{◌≡◌, ℕ, List, ◌++◌, length, take, Some, None, Ok, Err, Option, Result, MatchResult, sym, refl, ap, ◌∙◌}
use Rattle.std.proofs.Math.Seq.{take-append_seam}
use Rattle.networks.specs.Refusals.{refusal_of}
use Rattle.networks.specs.declared.refusals.Refusal.{Refusal}
use Rattle.networks.specs.declared.refusals.Report.{Report}
use Rattle.walks.specs.declared.turns.Reply.{Reply}
use Rattle.walks.specs.declared.turns.Reply.TheVariants.{Done}
use Rattle.receivers.specs.Rules.{Rule}
use Rattle.walks.specs.Calls.{Asked, next, pour, seek, call_of}
use Rattle.walks.specs.Doing.{NextDoes, SeekDoes, PourDoes}
use Rattle.walks.specs.Events.{Event, gives, refuses, pours, finds, misses}
use Rattle.walks.specs.Steps.{Step}
use Rattle.walks.specs.Turns.{Heard, poured, heard_as, heard_from, heard_of, left_by}

pub take_front : (xs ys : List ℕ) (n : ℕ) → length xs ≡ n → take n (xs ++ ys) ≡ xs
take_front xs ys n e = ap (λ (k : ℕ). take k (xs ++ ys)) (sym e) ∙ take-append_seam xs ys

-- what is heard of a call that replies nothing but that it was done
pub heard_done : (r : Result (Unit {0}) Refusal) (a : Result Reply Refusal) → MatchResult r (λ _. a ≡ Ok Done) (λ e. a ≡ Err e) → heard_from (Some a) ≡ heard_as (refusal_of r)
heard_done (Ok x) a h = ap (λ (z : Result Reply Refusal). heard_from (Some z)) h
heard_done (Err e) a h = ap (λ (z : Result Reply Refusal). heard_from (Some z)) h

module _ (L : List (List ℕ)) (size : ℕ) (J : Type 0) (rule : Rule) (here : Option (List ℕ)) (held : List ℕ) where
  -- An event asks, leaves and hears this, and leads the walk and the receiver there.
  abbrev pub EventOf : Asked → Asked → Heard → Option (List ℕ) → List ℕ → Type 0
  EventOf ask left hear here' held' = (e : Event) × (ask ≡ call_of e) × (left ≡ left_by e) × (hear ≡ heard_of e) × Step L size J rule here held e here' held'

  pub next_event : (list after : List ℕ) (said : Option Report) (here' : Option (List ℕ)) → NextDoes L size J here list after said here' → EventOf (next list) (next after) (heard_as said) here' held
  next_event list after None here' d = (gives list after d.0, refl, refl, refl, record { in_order = d.1; answered = d.2; moves = d.3; holding = refl })
  next_event list after (Some why) here' d = (refuses list after why, refl, refl, refl, record { in_order = tt; answered = (d.0, d.1); moves = d.2; holding = refl })

  pub seek_event : (row : List ℕ) (said : Option Report) (here' : Option (List ℕ)) → SeekDoes L here row said here' → EventOf (seek row) (seek row) (heard_as said) here' held
  seek_event row None here' d = (finds row, refl, refl, refl, record { in_order = tt; answered = d.0; moves = d.1; holding = refl })
  seek_event row (Some why) here' d = (misses row why, refl, refl, refl, record { in_order = tt; answered = (d.0, d.1); moves = d.2; holding = refl })

  pub pour_event : (limit count letter : ℕ) (here' : Option (List ℕ)) (held' : List ℕ) → PourDoes L J rule here held limit count letter here' held' → EventOf (pour limit) (pour limit) (poured count letter) here' held'
  pour_event limit count letter here' held' d =
      (pours limit d.0 letter, refl, refl, ap (λ n. poured n letter) (sym d.1), record { in_order = d.2; answered = d.3; moves = d.4; holding = d.5 })

  -- equal things asked, left and heard
  pub event_as : {ask ask' left left' : Asked} {hear hear' : Heard} {here' : Option (List ℕ)} {held' : List ℕ} → ask ≡ ask' → left ≡ left' → hear ≡ hear'
      → EventOf ask' left' hear' here' held' → EventOf ask left hear here' held'
  event_as a l h (e, asks, leaves, hears, step) = (e, a ∙ asks, l ∙ leaves, h ∙ hears, step)
