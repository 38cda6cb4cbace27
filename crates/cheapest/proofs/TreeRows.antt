-- Rows of spanning trees. The usable links of a graph, in rising order of rank, are candidates over
-- which rows are formed, and a row of a spanning tree is the same as a base that is one link shorter
-- than there are sites. So what was shown for bases holds for the rows of spanning trees.
use Rattle.std.proofs.Common.{◌≡◌, ℕ, ◌+◌, ◌<◌, true, List, [], map, length, inl, inr, arith}
use Rattle.forests.specs.Lists.{Within, Rising}
use Rattle.forests.specs.Closures.{Indep, Free, push}
use Rattle.forests.specs.Graphs.{Graph, Fits, ClosesRing, Allowed, SpanningTree}
use Rattle.forests.specs.Labels.{below, closes_ring}
use Rattle.forests.proofs.Members.{in_parts, length_push}
use Rattle.forests.proofs.Completion.{picks_within, picks_indep, picks_cover}
use Rattle.forests.proofs.Labelling.{chains, chains_trans}
use Rattle.forests.proofs.Size.{forest_size}
use Rattle.forests.proofs.Trees.{allowed_inside, tree_free, free_tree, tree_any_order}
use Rattle.weights.specs.Scales.{Scale, Lawful, sum_of}
use Rattle.cheapest.specs.Ranks.{rank}
use Rattle.cheapest.specs.Trees.{Row, Cheapest}
use Rattle.cheapest.specs.Completions.{passing, sorted, candidates, completion, first}
use Rattle.cheapest.proofs.Orders.{ordered_weaker}
use Rattle.cheapest.proofs.Amounts.{total_sorted}
use Rattle.cheapest.proofs.Ranks.{rank_injective, rank_follows}
use Rattle.cheapest.proofs.Sorting.{sorted_in, in_sorted, length_sorted, sorted_rising, different_apart, rising_unique, passing_in, in_passing, passing_ordered, below_in, in_below, below_ordered}
use Rattle.cheapest.proofs.Bases.{Setting, Proper, Base, AmountsFollow, first_base, least_total, same_amounts, amounts_least}
use Rattle.cheapest.proofs.Successors.{Best}

-- rows of links of a graph, upon the links F
abbrev pub graph_setting : Graph → (ℕ → ℕ) → List ℕ → Setting
graph_setting g key F = record { Span = ClosesRing g; test = closes_ring g; key = key; chosen = F; candidates = candidates g key }

module _ (g : Graph) (key : ℕ → ℕ) where
  pub candidate_allowed : Allowed g (candidates g key)
  candidate_allowed e m =
      let p = passing_in g.usable e (below g.links) (sorted_in key e (passing g.usable (below g.links)) m) in
      (below_in g.links e p.0, p.1)

  pub allowed_candidate : (S : List ℕ) → Allowed g S → Within S (candidates g key)
  allowed_candidate S a e m = in_sorted key e (passing g.usable (below g.links))
      (in_passing g.usable e (below g.links) (in_below g.links e (a e m).0) (a e m).1)

module _ (g : Graph) (s : Scale) (laws : Lawful s) (w : ℕ → s.Amount) where
  pub candidates_rising : Rising (rank g s w) (candidates g (rank g s w))
  candidates_rising =
      let m = g.links in
      let key = rank g s w in
      sorted_rising key (passing g.usable (below m)) (passing_ordered g.usable (λ x y. key x ≡ key y → ⊥) (below m)
      (ordered_weaker (λ x y. x < y) (λ x y. key x ≡ key y → ⊥) (below m)
      (λ x y a b l e. omega (arith, rank_injective s w laws m x y (below_in m x a) (below_in m y b) e)) (below_ordered m)))

  pub graph_proper : (F : List ℕ) → Indep (ClosesRing g) F
      → Proper (graph_setting g (rank g s w) F)
  graph_proper F i = record { closure = chains g.from g.to; start = i; rising = candidates_rising }

  pub graph_amounts : AmountsFollow s w (rank g s w) (candidates g (rank g s w))
  graph_amounts x y a b h = rank_follows s w laws g.links x y
      (candidate_allowed g (rank g s w) x a).0 (candidate_allowed g (rank g s w) y b).0 h

  -- the completion of F has the least total of all that could be put upon F in its place
  pub completion_least : (F xs : List ℕ) → Indep (ClosesRing g) F → Free (ClosesRing g) F xs → Allowed g xs
      → length xs ≡ length (completion g s w F) → s.le (sum_of s (map w (completion g s w F))) (sum_of s (map w xs)) ≡ true
  completion_least F xs i f a len =
      let key = rank g s w in
      least_total (graph_setting g key F) (graph_proper F i) s laws w graph_amounts
      xs f (allowed_candidate g key xs a) len

  module _ (fits : Fits g) where
    -- where there is a spanning tree, the first row has its size
    pub first_size : (S : List ℕ) → SpanningTree g S → length (first g s w) + 1 ≡ g.sites
    first_size S t =
        let Span = ClosesRing g in
        let test = closes_ring g in
        let C = chains g.from g.to in
        let key = rank g s w in
        let cs = candidates g key in
        let K = push [] (first g s w) in
        let allowed : Allowed g K = λ e m. elim (in_parts e (first g s w) [] m) [
          | inl a ↦ candidate_allowed g key e (picks_within test [] cs e a)
          | inr b ↦ absurd b
        ] in
        let size = forest_size g.from g.to g.sites K (omega (arith, t.size)) (allowed_inside g fits K allowed)
        (picks_indep Span test C [] cs tt)
        (λ u v lu lv. chains_trans g.from g.to S K u v
        (λ e m. picks_cover Span test C [] cs e (allowed_candidate g key S t.allowed e m)) (t.joins u v lu lv)) in
        omega (arith, size, length_push [] (first g s w))

    pub row_base : (r : List ℕ) → Row g (rank g s w) r → Base (graph_setting g (rank g s w) []) r
    row_base r row = record {
      rises = row.rises;
      within = allowed_candidate g (rank g s w) r row.tree.allowed;
      free = tree_free g fits r row.tree;
      size = omega (arith, row.tree.size, first_size r row.tree);
    }

    pub base_row : length (first g s w) + 1 ≡ g.sites → (r : List ℕ) → Base (graph_setting g (rank g s w) []) r → Row g (rank g s w) r
    base_row size r b = record {
      tree = free_tree g fits r b.free (λ e m. candidate_allowed g (rank g s w) e (b.within e m)) (omega (arith, b.size));
      rises = b.rises;
    }

    -- a spanning tree has one row
    pub tree_row : (S : List ℕ) → SpanningTree g S → Row g (rank g s w) (sorted (rank g s w) S)
    tree_row S t =
        let m = g.links in
        let key = rank g s w in
        record {
          tree = tree_any_order g fits S (sorted key S) t (λ x h. in_sorted key x S h) (λ x h. sorted_in key x S h) (length_sorted key S);
          rises = sorted_rising key S (different_apart key S t.different
              (λ x y a b. rank_injective s w laws m x y (t.allowed x a).0 (t.allowed y b).0));
        }

    pub one_row : (S : List ℕ) → SpanningTree g S
        → (r : List ℕ) × Row g (rank g s w) r × Within S r × Within r S × (sum_of s (map w r) ≡ sum_of s (map w S))
        × ((r' : List ℕ) → Row g (rank g s w) r' → Within S r' → Within r' S → r' ≡ r)
    one_row S t =
        let key = rank g s w in
        let r = sorted key S in (
          r,
          tree_row S t,
          (λ x h. in_sorted key x S h),
          (λ x h. sorted_in key x S h),
          total_sorted s laws w key S,
          λ r' row there back. rising_unique key r' r row.rises (tree_row S t).rises
              (λ x h. in_sorted key x S (back x h)) (λ x h. there x (sorted_in key x S h)),
        )

    -- cheapest is best
    pub cheapest_best : (r : List ℕ) → Cheapest g s w r → Best (graph_setting g (rank g s w) []) s w r
    cheapest_best r c =
        let key = rank g s w in
        let b = row_base r c.row in
        let size = first_size r c.row.tree in
        let ok = graph_proper [] tt in
        let tree = (base_row size (first g s w) (first_base (graph_setting g key []) ok)).tree in
        record { base = b; amounts = same_amounts (graph_setting g key []) ok s laws w graph_amounts r b (c.least (first g s w) tree) }

    pub best_cheapest : length (first g s w) + 1 ≡ g.sites → (r : List ℕ) → Best (graph_setting g (rank g s w) []) s w r → Cheapest g s w r
    best_cheapest size r b =
        let key = rank g s w in
        record {
          row = base_row size r b.base;
          least = λ S t. amounts_least (graph_setting g key []) (graph_proper [] tt) s laws w graph_amounts
              r b.amounts S (tree_free g fits S t) (allowed_candidate g key S t.allowed) (omega (arith, t.size));
        }
