-- The report of a network, from its parts.
use Rattle.std.proofs.Common.{◌≡◌, ℕ, ◌<◌, List, [], ◌∷◌, ◌++◌, map, length, Some, None, Option, MatchOption, sym, refl, ap, ◌∙◌, subst, arith}
use Rattle.forests.specs.Graphs.{SitesJoined}
use Rattle.forests.specs.Lists.{In}
use Rattle.forests.proofs.Members.{in_left}
use Rattle.weights.specs.Scales.{Lawful, Weighing, sum_of}
use Rattle.cheapest.specs.Trees.{Cheapest}
use Rattle.cheapest.proofs.Theorems.{one_list}
use Rattle.networks.specs.Networks.{sites_of, links_of, network_graph, weights_of}
use Rattle.networks.specs.declared.networks.Network.{Network}
use Rattle.walks.specs.Walks.{network_of, place_of, row_at, Listed}
use Rattle.walks.specs.declared.walks.Walk.{Walk}
use Rattle.walks.proofs.Alikes.{network_fits}
use Rattle.reports.specs.Answers.{sound_line}
use Rattle.reports.specs.Filling.{ListsPrinted}
use Rattle.reports.specs.Listing.{lines_of, Printed, no_tree, all, first, last_line}
use Rattle.reports.specs.Reports.{PutsWalked}
use Rattle.reports.specs.Sinks.{PutOut}
use Rattle.reports.specs.Totals.{total_text, AllPriced, TotalOf, EachOf}
use Rattle.reports.proofs.Poured.{row_few, row_links}
use Rattle.reports.proofs.Puts.{put_both}

-- all rows that are printed are listed
printed_in : (L : List (List ℕ)) (J : Type 0) (rows : List (List ℕ)) (letter : ℕ) → Printed L J rows letter → (row : List ℕ) → In row rows → In row L
printed_in L J rows letter (no_tree j none l) row m = absurd (subst (λ xs. In row xs) none m)
printed_in L J rows letter (all j few same l) row m = subst (λ xs. In row xs) (sym same) m
printed_in L J rows letter (first j many next after same l) row m = subst (λ xs. In row xs) (sym same) (in_left row rows (next ∷ after) m)

in_some : (row : List ℕ) (rows : List (List ℕ)) → In row rows → 0 < length rows
in_some row [] m = absurd m
in_some row (x ∷ rows) m = omega arith

module _ {K T : Type 0} (kind : Weighing K) (sum : T → kind.scale.Amount) (laws : Lawful kind.scale) (text : T → List ℕ) (before after : Walk K) where
  abbrev n : Network K
  n = network_of before

  abbrev w : ℕ → kind.scale.Amount
  w = weights_of kind n

  -- every cheapest tree has the same total
  one_total : (r r' : List ℕ) → Cheapest (network_graph n) kind.scale w r → Cheapest (network_graph n) kind.scale w r' → sum_of kind.scale (map w r) ≡ sum_of kind.scale (map w r')
  one_total r r' c c' = laws.antisym (sum_of kind.scale (map w r)) (sum_of kind.scale (map w r')) (c.least r' c'.row.tree) (c'.least r c.row.tree)

  -- the text of a total, by its sum
  shown_total : (shown : kind.scale.Amount → List ℕ) → ((t : T) → text t ≡ shown (sum t)) → (total : Option T) (a : kind.scale.Amount) → MatchOption total ⊥ (λ t. sum t ≡ a) → total_text text total ≡ shown a
  shown_total shown by None a is = absurd is
  shown_total shown by (Some t) a is = by t ∙ ap shown is

  module _ {S : Type 0} (took : S → List ℕ → S → Type 0) (start listing listed end : S) (count letter : ℕ) (each : Option T)
      (same : network_of after ≡ n) (lists : ListsPrinted kind before after took listing listed count letter) (totals : EachOf kind sum after count each) where
    total_of : (L : List (List ℕ)) → Listed kind n L → (here row : List ℕ) → 0 < count → place_of after ≡ Some here → In here L → In row L → MatchOption each ⊥ (λ t. sum t ≡ sum_of kind.scale (map w row))
    total_of L full here row some place m m' =
        let c = full.sound here m in
        let priced : AllPriced (links_of n) here = λ k inside. (let few = row_few kind n L full here c in omega arith, row_links kind n L full here c k inside) in
        subst (λ (a : kind.scale.Amount). MatchOption each ⊥ (λ t. sum t ≡ a)) (one_total here row c (full.sound row m'))
        (subst (λ (k : Network K). TotalOf kind sum (links_of k) here each) same
        (subst (λ (r : List ℕ). TotalOf kind sum (links_of (network_of after)) r each) (ap row_at place) (totals.1 some)) priced)

    pub report_of : PutOut took start (sound_line (sites_of n) (length (links_of n)) ++ (10 ∷ [])) listing → PutOut took listed (last_line count (total_text text each) letter) end → PutsWalked kind text sum took n start end
    report_of begins ends shown by =
        let list = one_list kind.scale laws (network_graph n) (network_fits n) w in
        let (rows, long, put, printed, on) = lists list.0 list.1 in
        let all : List ℕ = (sound_line (sites_of n) (length (links_of n)) ++ (10 ∷ [])) ++ (lines_of rows ++ last_line (length rows) (total_text text each) letter) in (
          all,
          record {
            full = list.0;
            listed = list.1;
            rows = rows;
            letter = letter;
            printed = printed;
            each = total_text text each;
            dash = λ none. ap (total_text text) (totals.0 (sym long ∙ ap length none));
            total = λ row m.
                let some : 0 < count = (let many = in_some row rows m in omega arith) in
                let (here, place, member) = on some in
                shown_total shown by each (sum_of kind.scale (map w row)) (total_of list.0 list.1 here row some place member (printed_in list.0 (SitesJoined (network_graph n)) rows letter printed row m));
            whole = refl;
          },
          put_both took start listing end _ _ begins (put_both took listing listed end _ _ put (subst (λ (k : ℕ). PutOut took listed (last_line k (total_text text each) letter) end) (sym long) ends)),
        )
