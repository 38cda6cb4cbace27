-- Totals of lists put together in other ways, and cheapest rows told by their total alone: a row is a
-- cheapest tree's if its total is no higher than that of the first row.
use Rattle.std.proofs.Common.{◌≡◌, ℕ, ◌+◌, true, List, [], ◌∷◌, ◌++◌, map, length, sym, refl, ap, ◌∙◌, subst}
use Rattle.forests.specs.Closures.{push}
use Rattle.forests.specs.Graphs.{Graph, Fits, SpanningTree}
use Rattle.weights.specs.Scales.{Scale, Lawful, sum_of}
use Rattle.cheapest.specs.Ranks.{rank}
use Rattle.cheapest.specs.Trees.{Row, Cheapest}
use Rattle.cheapest.specs.Completions.{sorted, first}
use Rattle.cheapest.proofs.Amounts.{total_sorted}
use Rattle.cheapest.proofs.TreeRows.{first_size, tree_row}
use Rattle.cheapest.proofs.Theorems.{first_row}

module _ (s : Scale) (laws : Lawful s) (w : ℕ → s.Amount) where
  -- a + (x + b) and x + (a + b)
  pub add_swap : (a x b : s.Amount) → s.add a (s.add x b) ≡ s.add x (s.add a b)
  add_swap a x b = sym (laws.assoc a x b) ∙ ap (λ z. s.add z b) (laws.comm a x) ∙ laws.assoc x a b

  pub total_push : (F xs : List ℕ) → sum_of s (map w (push F xs)) ≡ s.add (sum_of s (map w F)) (sum_of s (map w xs))
  total_push F [] = sym (laws.unit (sum_of s (map w F)))
  total_push F (x ∷ xs) = total_push (x ∷ F) xs ∙ laws.assoc (w x) (sum_of s (map w F)) (sum_of s (map w xs))
      ∙ sym (add_swap (sum_of s (map w F)) (w x) (sum_of s (map w xs)))

  -- a member may stand anywhere
  pub total_middle : (front back : List ℕ) (e : ℕ) → sum_of s (map w (front ++ (e ∷ back))) ≡ s.add (w e) (sum_of s (map w (front ++ back)))
  total_middle [] back e = refl
  total_middle (x ∷ front) back e = ap (s.add (w x)) (total_middle front back e) ∙ add_swap (w x) (w e) (sum_of s (map w (front ++ back)))

module _ (g : Graph) (fits : Fits g) (s : Scale) (laws : Lawful s) (w : ℕ → s.Amount) where
  pub first_cheapest : length (first g s w) + 1 ≡ g.sites → Cheapest g s w (first g s w)
  first_cheapest size = (first_row s laws g fits w).0 size

  -- a row is cheapest if its total is that of the first row, or less
  pub cheapest_by_total : (r : List ℕ) → Row g (rank g s w) r
      → s.le (sum_of s (map w r)) (sum_of s (map w (first g s w))) ≡ true → Cheapest g s w r
  cheapest_by_total r row low = record {
    row = row;
    least = λ S t. laws.trans (sum_of s (map w r)) (sum_of s (map w (first g s w))) (sum_of s (map w S)) low
        ((first_cheapest (first_size g s laws w fits r row.tree)).least S t);
  }

  -- the same for a tree in any order
  pub tree_by_total : (S : List ℕ) → SpanningTree g S
      → s.le (sum_of s (map w S)) (sum_of s (map w (first g s w))) ≡ true → Cheapest g s w (sorted (rank g s w) S)
  tree_by_total S t low = cheapest_by_total (sorted (rank g s w) S) (tree_row g s laws w fits S t)
      (subst (λ a. s.le a (sum_of s (map w (first g s w))) ≡ true) (sym (total_sorted s laws w (rank g s w) S)) low)

  -- all cheapest rows have the first row's total
  pub cheapest_low : (r : List ℕ) → Cheapest g s w r → s.le (sum_of s (map w r)) (sum_of s (map w (first g s w))) ≡ true
  cheapest_low r c = c.least (first g s w) (first_cheapest (first_size g s laws w fits r c.row.tree)).row.tree

  pub cheapest_totals : (r r' : List ℕ) → Cheapest g s w r → Cheapest g s w r' → sum_of s (map w r) ≡ sum_of s (map w r')
  cheapest_totals r r' c c' = laws.antisym (sum_of s (map w r)) (sum_of s (map w r')) (c.least r' c'.row.tree) (c'.least r c.row.tree)
