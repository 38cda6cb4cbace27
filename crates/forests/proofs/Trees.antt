-- Spanning trees are the forests of n - 1 usable links, in whatever order their links are written.
-- The picks from usable links that join all sites join as much as those do, so they are a tree. For a
-- tree's own links, none was then passed over: the tree is free as it stands, and so is every front
-- part of it.
use Rattle.std.proofs.Common.{◌≡◌, ℕ, ◌+◌, ◌≤◌, ◌↔◌, List, [], length, take, subst, inl, inr, arith}
use Rattle.forests.specs.Lists.{Within}
use Rattle.forests.specs.Graphs.{Graph, Fits, ClosesRing, Inside, JoinsAll, Allowed, SpanningTree, SitesJoined}
use Rattle.forests.specs.Closures.{Indep, Free, push, picks}
use Rattle.forests.specs.Labels.{closes_ring}
use Rattle.forests.proofs.Members.{in_parts, length_push}
use Rattle.forests.proofs.Closure.{indep_different, free_indep, free_take}
use Rattle.forests.proofs.Completion.{picks_within, picks_free, picks_indep, picks_cover, picks_all, free_any_order, free_is_indep}
use Rattle.forests.proofs.Labelling.{chains, chains_trans}
use Rattle.forests.proofs.Size.{forest_size, forest_joins}

module _ (g : Graph) (fits : Fits g) where
  pub allowed_inside : (S : List ℕ) → Allowed g S → Inside g.from g.to g.sites S
  allowed_inside S a e m = (fits.from_fits e (a e m).0, fits.to_fits e (a e m).0)

  pub indep_tree : (S : List ℕ) → Indep (ClosesRing g) S → Allowed g S → length S + 1 ≡ g.sites → SpanningTree g S
  indep_tree S i a size = record {
    size = size;
    different = indep_different (ClosesRing g) (closes_ring g) (chains g.from g.to) S i;
    allowed = a;
    joins = forest_joins g.from g.to g.sites S (allowed_inside S a) i size;
  }

  -- the picks from usable links that join all sites are a tree
  pub picks_tree : (S : List ℕ) → 1 ≤ g.sites → Allowed g S → JoinsAll g.from g.to g.sites S → SpanningTree g (push [] (picks (closes_ring g) [] S))
  picks_tree S some a joins =
      let Span = ClosesRing g in
      let test = closes_ring g in
      let C = chains g.from g.to in
      let kept = picks test [] S in
      let K = push [] kept in
      let allowed : Allowed g K = λ e m. elim (in_parts e kept [] m) [ inl h ↦ a e (picks_within test [] S e h) | inr b ↦ absurd b ] in
      let indep = picks_indep Span test C [] S tt in
      indep_tree K indep allowed
      (forest_size g.from g.to g.sites K (omega arith) (allowed_inside K allowed) indep
      (λ u v lu lv. chains_trans g.from g.to S K u v (picks_cover Span test C [] S) (joins u v lu lv)))

  pub joined_tree : SitesJoined g ↔ ((S : List ℕ) × SpanningTree g S)
  joined_tree = (
    (λ h. (push [] (picks (closes_ring g) [] h.1), picks_tree h.1 h.0 h.2 h.3)),
    (λ t. (omega (arith, t.1.size), t.0, t.1.allowed, t.1.joins)),
  )

  pub tree_free : (S : List ℕ) → SpanningTree g S → Free (ClosesRing g) [] S
  tree_free S t =
      let test = closes_ring g in
      let kept = picks test [] S in
      let size = (picks_tree S (omega (arith, t.size)) t.allowed t.joins).size in
      subst (λ xs. Free (ClosesRing g) [] xs) (picks_all test [] S (omega (arith, size, t.size, length_push [] kept)))
      (picks_free (ClosesRing g) test (chains g.from g.to) [] S)

  -- so is every front part of it, as a list with the newest link first
  pub tree_prefix : (S : List ℕ) (i : ℕ) → SpanningTree g S → Indep (ClosesRing g) (push [] (take i S))
  tree_prefix S i t = free_indep (ClosesRing g) [] (take i S) tt (free_take (ClosesRing g) [] S i (tree_free S t))

  -- the same with the newest link first
  pub tree_indep : (S : List ℕ) → SpanningTree g S → Indep (ClosesRing g) S
  tree_indep S t = free_is_indep (ClosesRing g) (closes_ring g) (chains g.from g.to) S (tree_free S t)

  -- the same for links in the order in which they were chosen
  pub free_tree : (S : List ℕ) → Free (ClosesRing g) [] S → Allowed g S → length S + 1 ≡ g.sites → SpanningTree g S
  free_tree S f a size =
      indep_tree S (free_is_indep (ClosesRing g) (closes_ring g) (chains g.from g.to) S f) a size

  pub trees_are_forests : (S : List ℕ)
      → SpanningTree g S ↔ (Indep (ClosesRing g) S × Allowed g S × (length S + 1 ≡ g.sites))
  trees_are_forests S = (λ t. (tree_indep S t, t.allowed, t.size), λ h. indep_tree S h.0 h.1 h.2)

  -- a tree stays one in any other order
  pub tree_any_order : (S S' : List ℕ) → SpanningTree g S → Within S S' → Within S' S → length S' ≡ length S → SpanningTree g S'
  tree_any_order S S' t there back len =
      free_tree S' (free_any_order (ClosesRing g) (closes_ring g) (chains g.from g.to) [] S S' tt (tree_free S t) there (omega arith)) (λ e m. t.allowed e (back e m)) (omega (arith, t.size))
