-- The row after a given one. Let r be a best row and r' a later one, and let them part at i. Then the
-- departure from r at i (keep the first i links, complete with candidates above the next) is no higher
-- than r' at any position, so it too has the best amounts. So where no departure is good there is no
-- later row, and the good departure with the largest i comes before every other later row.
use Rattle.std.proofs.Common.{◌≡◌, ℕ, ◌<◌, List, ◌++◌, map, length, get_or, take, sym, ap, ◌∙◌, subst, inl, inr, arith}
use Rattle.std.proofs.lemmas.List.{length-map, length-take-le, get_or_append_left, get_or-take, take-append-le, take-take}
use Rattle.std.proofs.lemmas.Bool.{cases_order}
use Rattle.forests.specs.Closures.{push, picks}
use Rattle.weights.specs.Scales.{Scale, Lawful}
use Rattle.cheapest.specs.Rows.{Earlier, Next, NoneAfter}
use Rattle.cheapest.specs.Completions.{above}
use Rattle.cheapest.proofs.Orders.{earlier_asym, earlier_along, earlier_at, parting}
use Rattle.cheapest.proofs.Amounts.{amounts_between}
use Rattle.cheapest.proofs.Bases.{Setting, Proper, greedy, Base, AmountsFollow, first_amounts, amounts_along}
use Rattle.cheapest.proofs.Departures.{departing, departure_base, departure_later, parted_lowest}

-- A row of full length with the amounts of the greedy completion.
pub record Best (G : Setting) (s : Scale) (w : ℕ → s.Amount) (r : List ℕ) : Type 0 where
  pub base : Base G r
  pub amounts : map w r ≡ map w (greedy G)

module _ (G : Setting) (ok : Proper G) where
  open G use {Span, test, key, chosen as F, candidates as cs}

  module _ (s : Scale) (laws : Lawful s) (w : ℕ → s.Amount) (follow : AmountsFollow s w key cs) where
    -- a later best row shows a good departure, which it does not come before
    pub later_shows : (r r' : List ℕ) → Best G s w r → Best G s w r' → (i : ℕ) → i < length r → i < length r'
        → take i r ≡ take i r' → key (get_or r i 0) < key (get_or r' i 0)
        → (map w (departing G r i) ≡ map w r) × (Earlier key r' (departing G r i) → ⊥)
    later_shows r r' best best' i here here' same part =
        let Q = departing G r i in
        let p = parted_lowest G ok r r' best.base best'.base i here here' same part in (
          amounts_between s laws w (greedy G) Q r' (first_amounts G ok s laws w follow Q p.0)
              (amounts_along G ok s laws w follow Q r' p.0.within best'.base.within p.1) best'.amounts
              ∙ sym best.amounts,
          earlier_along key Q r' p.1,
        )

    pub none_after : (r : List ℕ) → Best G s w r
        → ((i : ℕ) → i < length r → map w (departing G r i) ≡ map w r → ⊥) → NoneAfter key (Best G s w) r
    none_after r best none r' best' e =
        let p = parting key r r' e in
        none p.0 p.1 (later_shows r r' best best' p.0 p.1 p.2 p.3 p.4).0

    pub next_row : (r : List ℕ) (i : ℕ) → Best G s w r → i < length r → map w (departing G r i) ≡ map w r
        → ((j : ℕ) → i < j → j < length r → map w (departing G r j) ≡ map w r → ⊥)
        → Next key (Best G s w) r (departing G r i)
    next_row r i best here good last =
        let Q = departing G r i in
        let rest = picks test (push F (take i r)) (above key (get_or r i 0) cs) in
        let b = best.base in
        let size : length Q ≡ length r = sym (length-map Q w) ∙ ap length good ∙ length-map r w in
        let front : length (take i r) ≡ i = length-take-le i r (omega arith) in
        record {
          member = record { base = departure_base G ok r i b.rises b.within b.free here (size ∙ b.size); amounts = good ∙ best.amounts };
          later = departure_later G ok r i here size;
          none_between = λ r' best' e e'.
              let p = parting key r r' e in
              let j = p.0 in
              let shown = later_shows r r' best best' j p.1 p.2 p.3 p.4 in
              elim (cases_order j i) [
                | inl k ↦ shown.1 (subst (λ n. Earlier key r' (departing G r n)) (sym k) e')
                | inr (inl l) ↦
                    let at_j : get_or (take i r ++ rest) j 0 ≡ get_or r j 0 =
                    get_or_append_left (take i r) rest 0 j (omega arith) ∙ get_or-take i r j 0 l in
                    let front-j : take j (take i r ++ rest) ≡ take j r =
                    take-append-le j (take i r) rest (omega arith) ∙ take-take j i r (omega arith) in
                    earlier_asym key Q r' (earlier_at key Q r' j (omega (arith, size, p.1)) p.2 (front-j ∙ p.3) (omega (arith, ap key at_j, p.4))) e'
                | inr (inr l) ↦ last j l p.1 shown.0
              ];
        }
