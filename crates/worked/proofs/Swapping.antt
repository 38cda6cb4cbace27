-- The substitutes of a link are read off the full list: each link is tried in its place.
use Rattle.std.proofs.Common.{◌≡◌, ℕ, ◌<◌, Bool, not, ◌&&◌, eqb, ◌↔◌, List, [], ◌∷◌, ◌++◌, sym, refl, ap, ◌∙◌, subst, inl}
use Rattle.std.proofs.lemmas.Bool.{and_parts, and_from, not-true, not_from_false, eqb-false, ne_eqb, eq-eqb, cond-true, cond-false}
use Rattle.std.specs.Set.{remove_key}
use Rattle.forests.specs.Graphs.{Graph}
use Rattle.forests.specs.Labels.{below}
use Rattle.forests.specs.Lists.{In, Different}
use Rattle.forests.proofs.Members.{in_right}
use Rattle.weights.specs.Amounts.{numbers}
use Rattle.cheapest.specs.Completions.{passing, sorted}
use Rattle.cheapest.specs.Ranks.{rank}
use Rattle.cheapest.specs.Trees.{Cheapest, FullList}
use Rattle.cheapest.proofs.Listings.{split_at}
use Rattle.cheapest.proofs.Sorting.{in_sorted, passing_in, in_passing, in_below}
use Rattle.walks.specs.Substitutes.{Substitutes}
use Rattle.worked.proofs.Classing.{stands, stands_decides}

-- the row without link e
abbrev pub leave : ℕ → List ℕ → List ℕ
leave e = remove_key (λ x. eqb x e)

leave_cut : (e : ℕ) (front back : List ℕ) → Different (front ++ (e ∷ back)) → leave e (front ++ (e ∷ back)) ≡ front ++ back
leave_cut e [] back once = cond-true (eqb e e) back (e ∷ leave e back) (eq-eqb e e refl)
leave_cut e (x ∷ front) back once =
    cond-false (eqb x e) (front ++ (e ∷ back)) (x ∷ leave e (front ++ (e ∷ back)))
    (ne_eqb x e (λ k. once.0 (subst (λ z. In z (front ++ (e ∷ back))) (sym k) (in_right e front (e ∷ back) (inl refl)))))
    ∙ ap (λ z. x ∷ z) (leave_cut e front back once.1)

module _ (g : Graph) (w : ℕ → ℕ) (L : List (List ℕ)) (full : FullList g numbers w L) (row : List ℕ) (e : ℕ) where
  abbrev pub swapped : ℕ → List ℕ
  swapped f = sorted (rank g numbers w) (f ∷ leave e row)

  -- f is another link, and with it in place of e the row is listed
  abbrev pub fills : ℕ → Bool
  fills f = not (eqb f e) && stands (swapped f) L

  pub substitutes_are : In row L → In e row → (f : ℕ) → Substitutes g numbers w row e f ↔ In f (passing fills (below g.links))
  substitutes_are listed inside f =
      let once : Different row = (full.sound row listed).row.tree.different in
      let cut : (front back : List ℕ) → row ≡ front ++ (e ∷ back) → leave e row ≡ front ++ back =
      λ front back k. ap (leave e) k ∙ leave_cut e front back (subst (λ xs. Different xs) k once) in (
        (λ s.
            let (front, back, k) = split_at e row inside in
            let c : Cheapest g numbers w (swapped f) = subst (λ xs. Cheapest g numbers w (sorted (rank g numbers w) (f ∷ xs))) (sym (cut front back k)) (s.swaps front back k) in
            let small : f < g.links = (c.row.tree.allowed f (in_sorted (rank g numbers w) f (f ∷ leave e row) (inl refl))).0 in
            in_passing fills f (below g.links) (in_below g.links f small)
            (and_from (not (eqb f e)) (stands (swapped f) L) (not_from_false (eqb f e) (ne_eqb f e s.other)) ((stands_decides (swapped f) L).1 (full.whole (swapped f) c)))),
        (λ m.
            let t = and_parts (not (eqb f e)) (stands (swapped f) L) (passing_in fills f (below g.links) m).1 in
            record {
              other = eqb-false f e (not-true (eqb f e) t.0);
              swaps = λ front back k. subst (λ xs. Cheapest g numbers w (sorted (rank g numbers w) (f ∷ xs))) (cut front back k) (full.sound (swapped f) ((stands_decides (swapped f) L).0 t.1));
            }),
      )
