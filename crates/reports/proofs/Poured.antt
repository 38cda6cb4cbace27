-- A pour into a text writer over places that have room for any line.
use Rattle.std.proofs.Common.{◌≡◌, ℕ, ◌+◌, ◌<◌, ◌≤◌, Bool, true, false, cond, ◌⊎◌, List, [], ◌∷◌, ◌++◌, length, get_or, take, is_some, Some, None, Option, unwrap_or, sym, refl, ap, ◌∙◌, subst, inl, inr, append_assoc, append-nil, arith}
use lib.Seq.{take-append_seam}
use Rattle.std.proofs.lemmas.List.{length-append, length-take, get_or_past}
use Rattle.std.proofs.lemmas.Bool.{cases_lt, le-leb}
use Rattle.forests.specs.Graphs.{SitesJoined}
use Rattle.forests.proofs.Members.{in_get_d}
use Rattle.weights.specs.Scales.{Lawful, Weighing}
use Rattle.cheapest.specs.Ranks.{rank}
use Rattle.cheapest.specs.Trees.{Cheapest}
use Rattle.cheapest.proofs.Theorems.{one_list}
use Rattle.networks.specs.Networks.{links_of, network_graph, weights_of}
use Rattle.networks.specs.declared.networks.Network.{Network}
use Rattle.receivers.specs.Rules.{held_after, held_after_all}
use Rattle.receivers.specs.Writing.{line_of, writable, writing, ShortRow}
use Rattle.receivers.proofs.Lines.{line_short}
use Rattle.walks.specs.Acts.{PourActs}
use Rattle.walks.specs.Answering.{EndsFor, at_limit, no_tree, no_more, not_taken, letter_f}
use Rattle.walks.specs.Places.{Comes, last_of}
use Rattle.walks.specs.Taking.{Declines, AllTaken}
use Rattle.walks.specs.Walks.{network_of, place_of, Listed, Begun}
use Rattle.walks.specs.declared.walks.Walk.{Walk}
use Rattle.walks.proofs.Alikes.{network_fits}
use Rattle.walks.proofs.Listed.{comes_member}
use Rattle.reports.specs.Filling.{Stops, at_limit as stops-at-limit, no_tree as stops-no-tree, no_more as stops-no-more, FillsPlaces}
use Rattle.reports.specs.Listing.{lines_of}

no_false : false ≡ true → ⊥
no_false e = let z : ◌≡◌ {A = ℕ} 0 1 = ap (λ b. cond b 1 0) e in omega arith

-- what is held after a row was taken
after_taken : (fits : Bool) (after held : List ℕ) → is_some (cond fits (Some after) None) ≡ true → unwrap_or (cond fits (Some after) None) held ≡ after
after_taken true after held t = refl
after_taken false after held t = absurd (no_false t)

-- a text writer holds the lines of the rows that it took
pub all_written : (room : ℕ) (held : List ℕ) (rows : List (List ℕ)) → AllTaken (writing room) held rows → held_after_all (writing room) held rows ≡ held ++ lines_of rows
all_written room held [] t = sym (append-nil held)
all_written room held (row ∷ rows) t =
    let e : held_after (writing room) held row ≡ held ++ line_of row = after_taken (writable room (length held) row) (held ++ line_of row) held t.0 in
    all_written room (held_after (writing room) held row) rows t.1 ∙ ap (λ h. h ++ lines_of rows) e ∙ append_assoc held (line_of row) (lines_of rows)

-- one that holds nothing takes every short row
declined : (fits : Bool) (after : List ℕ) → fits ≡ true → is_some (cond fits (Some after) None) ≡ false → ⊥
declined true after t d = no_false (sym d)
declined false after t d = no_false t

pub not_declined : (room : ℕ) (row : List ℕ) → 378 ≤ room → ShortRow row → Declines (writing room) [] row → ⊥
not_declined room row many short d =
    let few = le-leb (length row) 63 short.0 in
    let fits = le-leb (0 + length (line_of row)) room (let l = line_short row short in omega arith) in
    let takes : writable room 0 row ≡ true = cc in
    declined (writable room 0 row) (line_of row) takes d

module _ {K : Type 0} (kind : Weighing K) (n : Network K) (L : List (List ℕ)) (full : Listed kind n L) where
  -- the entries of a row are few, and numbers of links
  pub row_few : (row : List ℕ) → Cheapest (network_graph n) kind.scale (weights_of kind n) row → length row ≤ 63
  row_few row c = let size = c.row.tree.size in let few = n.few in omega arith

  pub row_links : (row : List ℕ) → Cheapest (network_graph n) kind.scale (weights_of kind n) row → (k : ℕ) → k < length row → get_or row k 0 < length (links_of n)
  row_links row c k inside = (c.row.tree.allowed (get_or row k 0) (in_get_d row k 0 inside)).0

  pub row_short : (row : List ℕ) → Cheapest (network_graph n) kind.scale (weights_of kind n) row → ShortRow row
  row_short row c = (
    row_few row c,
    λ k. elim (cases_lt k (length row)) [
      | inl inside ↦ let l = row_links row c k inside in let m = length-take n.count n.links in let few = n.room in omega arith
      | inr past ↦ let e = get_or_past row k 0 past in omega arith
    ],
  )

  pub comes_short : (here : Option (List ℕ)) (row : List ℕ) → Comes L here row → ShortRow row
  comes_short here row c = row_short row (comes_member (rank (network_graph n) kind.scale (weights_of kind n)) (Cheapest (network_graph n) kind.scale (weights_of kind n)) L full here (row ∷ []) c row (inl refl))

module _ {K : Type 0} (kind : Weighing K) (laws : Lawful kind.scale) (before after : Walk K) (room limit count letter : ℕ) (held' text : List ℕ)
    (acts : PourActs kind before after (writing room) [] limit count letter held') (begun : Begun kind before) (same : text ≡ held') where
  stops : (L : List (List ℕ)) (J : Type 0) (here : Option (List ℕ)) (held : List ℕ) → EndsFor L J (writing room) limit count here held letter → (letter ≡ letter_f) ⊎ Stops L J limit count here letter
  stops L J here held (at_limit e l) = inr (stops-at-limit e l)
  stops L J here held (no_tree u j l) = inr (stops-no-tree j l)
  stops L J here held (no_more u j last l) = inr (stops-no-more j last l)
  stops L J here held (not_taken u j last row comes d l) = inl l

  pub poured_fills : FillsPlaces kind before after limit count letter text
  poured_fills L full =
      let (rows, long, next, pours, place, hold) = acts begun L full in (
        rows,
        long,
        next,
        place,
        same ∙ hold ∙ all_written room [] rows pours.all_taken,
        subst (λ (o : Option (List ℕ)). (letter ≡ letter_f) ⊎ Stops L (SitesJoined (network_graph (network_of before))) limit count o letter) (sym place)
            (stops L (SitesJoined (network_graph (network_of before))) (last_of (place_of before) rows) (held_after_all (writing room) [] rows)
            (subst (λ (k : ℕ). EndsFor L (SitesJoined (network_graph (network_of before))) (writing room) limit k (last_of (place_of before) rows) (held_after_all (writing room) [] rows) letter) long pours.ends)),
      )

  list : (L : List (List ℕ)) × Listed kind (network_of before) L
  list = let found = one_list kind.scale laws (network_graph (network_of before)) (network_fits (network_of before)) (weights_of kind (network_of before)) in (found.0, found.1)

  pub poured_within : count ≤ limit
  poured_within =
      let (rows, long, next, pours, place, hold) = acts begun list.0 list.1 in
      let w = pours.within in
      omega arith

  one_taken : (J : Type 0) (rows : List (List ℕ)) → length rows ≡ count → 378 ≤ room → letter ≡ letter_f
      → EndsFor list.0 J (writing room) limit (length rows) (last_of (place_of before) rows) (held_after_all (writing room) [] rows) letter → 0 < count
  one_taken J (row ∷ rows) long many l e = omega (arith, long)
  one_taken J [] long many l (at_limit e l') = absurd (omega arith)
  one_taken J [] long many l (no_tree u j l') = absurd (omega arith)
  one_taken J [] long many l (no_more u j last l') = absurd (omega arith)
  one_taken J [] long many l (not_taken u j last row comes d l') =
      absurd (not_declined room row many (comes_short kind (network_of before) list.0 list.1 (place_of before) row comes) d)

  -- where a line did not fit, lines were written before it
  pub poured_some : 378 ≤ room → letter ≡ letter_f → 0 < count
  poured_some many l =
      let (rows, long, next, pours, place, hold) = acts begun list.0 list.1 in
      one_taken (SitesJoined (network_graph (network_of before))) rows long many l pours.ends

-- what stands in front of the places, where they hold this and then others
module _ (places held spare : List ℕ) (used : ℕ) (is : places ≡ held ++ spare) (all : used ≡ length held) where
  pub front_held : take used places ≡ held
  front_held = ap (λ k. take k places) all ∙ ap (λ xs. take (length held) xs) is ∙ take-append_seam held spare

  pub front_within : used ≤ length places
  front_within = let l = length-append held spare in let m = ap length is in omega arith
