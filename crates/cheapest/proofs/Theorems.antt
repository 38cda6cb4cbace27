-- The theorems on cheapest trees, each from what was shown for bases. Where the first row is too short
-- there is no spanning tree and every row of a cheapest tree is one too many; otherwise cheapest and
-- best are the same, so that the next row and the full list carry over.
use Rattle.std.proofs.Common.{ℕ, ◌+◌, List, [], length, refl, inl, inr}
use Rattle.std.proofs.lemmas.Bool.{cases_eq}
use Rattle.weights.specs.Scales.{Scale, Lawful}
use Rattle.cheapest.specs.Ranks.{rank}
use Rattle.cheapest.specs.Trees.{Cheapest, FullList}
use Rattle.cheapest.specs.Completions.{first}
use Rattle.cheapest.specs.Theorems.{RanksTell, OneRow, FirstRowStands, Position, LeastTotal, Successor, OneFullList}
use Rattle.cheapest.proofs.Orders.{earlier_along}
use Rattle.cheapest.proofs.Ranks.{rank_injective, rank_follows}
use Rattle.cheapest.proofs.Bases.{first_base, first_lowest}
use Rattle.cheapest.proofs.Successors.{Best, none_after, next_row}
use Rattle.cheapest.proofs.FullLists.{full_list, listing_unique, listing_alike, next_alike}
use Rattle.cheapest.proofs.TreeRows.{graph_setting, graph_proper, graph_amounts, completion_least, first_size, row_base, one_row, cheapest_best, best_cheapest}

module _ (s : Scale) (laws : Lawful s) where
  pub ranks_tell : RanksTell s
  ranks_tell w m x y lx ly = (rank_injective s w laws m x y lx ly, rank_follows s w laws m x y lx ly)

  pub rows_are_one : OneRow s
  rows_are_one g fits w = one_row g s laws w fits

  pub first_row : FirstRowStands s
  first_row g fits w =
      let G = graph_setting g (rank g s w) [] in
      let ok = graph_proper g s laws w [] tt in (
        (λ size. best_cheapest g s laws w fits size (first g s w) (record { base = first_base G ok; amounts = refl })),
        (λ r c. earlier_along (rank g s w) (first g s w) r (first_lowest G ok r (cheapest_best g s laws w fits r c).base)),
        (λ short S t. short (first_size g s laws w fits S t)),
      )

  pub position : Position s
  position g fits w r row = (
    (λ c. (cheapest_best g s laws w fits r c).amounts),
    (λ e. best_cheapest g s laws w fits (first_size g s laws w fits r row.tree) r (record { base = row_base g s laws w fits r row; amounts = e })),
  )

  pub least : LeastTotal s
  least g w = completion_least g s laws w

  pub successor : Successor s
  successor g fits w r c =
      let G = graph_setting g (rank g s w) [] in
      let ok = graph_proper g s laws w [] tt in
      let best = cheapest_best g s laws w fits r c in
      let size = first_size g s laws w fits r c.row.tree in (
        (λ i here good last. next_alike (rank g s w) (Best G s w) (Cheapest g s w) r _
            (best_cheapest g s laws w fits size) (cheapest_best g s laws w fits)
            (next_row G ok s laws w (graph_amounts g s laws w) r i best here good last)),
        (λ none r' c'. none_after G ok s laws w (graph_amounts g s laws w) r best none r' (cheapest_best g s laws w fits r' c')),
      )

  pub one_list : OneFullList s
  one_list g fits w =
      let G = graph_setting g (rank g s w) [] in
      let key = rank g s w in
      let found : (L : List (List ℕ)) × FullList g s w L = elim (cases_eq (length (first g s w) + 1) g.sites) [
        | inl size ↦
            let f = full_list G (graph_proper g s laws w [] tt) s laws w in
            (f.0, listing_alike key key (Best G s w) (Cheapest g s w) f.0 (best_cheapest g s laws w fits size) (cheapest_best g s laws w fits) (λ r q _ _ e. e) f.1)
        | inr short ↦ (
          [],
          record {
            sound = λ r m. absurd m;
            whole = λ r c. short (first_size g s laws w fits r c.row.tree);
            listed = tt;
          },
        )
      ] in
      (found.0, found.1, λ L' full. listing_unique key (Cheapest g s w) L' found.0 full found.1)
