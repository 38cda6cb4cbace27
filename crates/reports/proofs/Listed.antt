-- A listing, one filling of the places at a time.
use Rattle.std.proofs.Common.{◌≡◌, ℕ, ◌+◌, ◌-◌, ◌≤◌, List, [], ◌∷◌, ◌++◌, length, None, Option, sym, refl, ap, ◌∙◌, subst, inl, inr, append_assoc, arith}
use Rattle.std.proofs.lemmas.List.{length-append}
use Rattle.forests.specs.Graphs.{SitesJoined}
use Rattle.weights.specs.Scales.{Weighing}
use Rattle.networks.specs.Networks.{network_graph}
use Rattle.networks.specs.declared.networks.Network.{Network}
use Rattle.walks.specs.Acts.{Stays}
use Rattle.walks.specs.Answering.{letter_f}
use Rattle.walks.specs.Places.{NextMembers, last_of}
use Rattle.walks.specs.Walks.{network_of, place_of, Listed}
use Rattle.walks.specs.declared.walks.Walk.{Walk}
use Rattle.walks.proofs.Listed.{listed_once}
use Rattle.walks.proofs.Members.{next_more, last_append}
use Rattle.receivers.specs.Writing.{line_of}
use Rattle.reports.specs.Filling.{Stops, at_limit, no_tree, no_more, Fills, FillsPlaces, ListsRows}
use Rattle.reports.specs.Listing.{lines_of}
use Rattle.reports.specs.Sinks.{PutOut, nothing, one_more}

-- the lines of rows and of more rows
pub lines_append : (xs ys : List (List ℕ)) → lines_of (xs ++ ys) ≡ lines_of xs ++ lines_of ys
lines_append [] ys = refl
lines_append (x ∷ xs) ys = ap (λ zs. line_of x ++ zs) (lines_append xs ys) ∙ sym (append_assoc (line_of x) (lines_of xs) (lines_of ys))

-- The lines of the first so many rows were put out on the way from `before` to `now`.
pub record Gone {K : Type 0} (kind : Weighing K) (before now : Walk K) {S : Type 0} (took : S → List ℕ → S → Type 0) (start here : S) (count : ℕ) : Type 0 where
  pub stays : Stays kind before now
  pub so_far : (L : List (List ℕ)) → Listed kind (network_of before) L
      → (rows : List (List ℕ)) × (length rows ≡ count) × NextMembers L None rows × (place_of now ≡ last_of None rows) × PutOut took start (lines_of rows) here

module _ {K : Type 0} (kind : Weighing K) (before : Walk K) {S : Type 0} (took : S → List ℕ → S → Type 0) (start : S) where
  pub gone_none : place_of before ≡ None → Gone kind before before took start start 0
  gone_none none = record {
    stays = record { network = refl; begun = λ b. b };
    so_far = λ L full. ([], refl, (L, refl), none, nothing refl refl);
  }

  module _ (now next : Walk K) (here here' : S) (limit count taken letter : ℕ) (text : List ℕ)
      (gone : Gone kind before now took start here count) (fills : FillsPlaces kind now next (limit - count) taken letter text)
      (stays : Stays kind now next) (put : took here text here') where
    filled : (L : List (List ℕ)) → Listed kind (network_of before) L → Fills L (SitesJoined (network_graph (network_of before))) (place_of now) (limit - count) taken letter (place_of next) text
    filled L full =
        subst (λ (n : Network K). Fills L (SitesJoined (network_graph n)) (place_of now) (limit - count) taken letter (place_of next) text) gone.stays.network
        (fills L (subst (λ (n : Network K). Listed kind n L) (sym gone.stays.network) full))

    more : (L : List (List ℕ)) → Listed kind (network_of before) L
        → (rows : List (List ℕ)) × (length rows ≡ count + taken) × NextMembers L None rows × (place_of next ≡ last_of None rows) × PutOut took start (lines_of rows) here'
    more L full =
        let (rows, long, begins, place, out) = gone.so_far L full in
        let (rows', long', begins', place', is, _) = filled L full in
        let comes = subst (λ (o : Option (List ℕ)). NextMembers L o rows') place begins' in (
          rows ++ rows',
          omega (arith, length-append rows rows', long, long'),
          next_more L (listed_once _ _ L full) None rows rows' begins comes,
          place' ∙ ap (λ (o : Option (List ℕ)). last_of o rows') place ∙ sym (last_append None rows rows'),
          one_more (lines_of rows) text here out put (lines_append rows rows' ∙ ap (λ zs. lines_of rows ++ zs) (sym is)),
        )

    pub gone_more : Gone kind before next took start here' (count + taken)
    gone_more = record {
      stays = record { network = stays.network ∙ gone.stays.network; begun = λ b. stays.begun (gone.stays.begun b) };
      so_far = more;
    }

    stops : (L : List (List ℕ)) (J : Type 0) → count ≤ limit → Stops L J (limit - count) taken (place_of next) letter → Stops L J limit (count + taken) (place_of next) letter
    stops L J few (at_limit e l) = at_limit (omega arith) l
    stops L J few (no_tree j l) = no_tree j l
    stops L J few (no_more j last l) = no_more j last l

    -- Not for want of places: for the reason that its letter says.
    pub gone_ends : count ≤ limit → (letter ≡ letter_f → ⊥) → ListsRows kind before next took start here' limit (count + taken) letter
    gone_ends few other L full =
        let (rows, long, begins, place, out) = more L full in
        let (_, _, _, _, _, why) = filled L full in (
          rows,
          long,
          begins,
          place,
          out,
          elim why [
            | inl f ↦ absurd (other f)
            | inr why ↦ stops L (SitesJoined (network_graph (network_of before))) few why
          ],
        )
