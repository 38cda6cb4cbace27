-- The usable links of a plan, read from its ranking: they are its candidates, and their ends are sites.
use Rattle.std.proofs.Common.{◌≡◌, ℕ, ◌+◌, ◌<◌, ◌≤◌, Bool, true, false, List, [], ◌∷◌, ◌++◌, map, length, get_or, take, set, sym, refl, ap, ◌∙◌, subst, inl, inr, arith, below_more}
use Rattle.std.proofs.Math.ListN.{get_or-map}
use Rattle.std.proofs.lemmas.List.{append-nil, map-append, length-map, length-set, length-take-le, get_or-take, get_or-set_same, get_or-set_other, take_more, take_more_set, take_all}
use Rattle.std.proofs.lemmas.Bool.{cond-true, cond-false, cases_Bool}
use Rattle.weights.specs.Amounts.{numbers}
use Rattle.forests.proofs.Members.{in_get_d}
use Rattle.cheapest.specs.Completions.{passing}
use Rattle.cheapest.specs.Ranks.{Ranking}
use Rattle.cheapest.specs.Plans.{graph_of, mark_of, ranked_of}
use Rattle.cheapest.specs.Places.{no_candidate, link_at, candidate_at}
use Rattle.cheapest.specs.declared.plan.Plan.{Plan}
use Rattle.cheapest.specs.declared.candidates.Candidate.{Candidate}
use Rattle.cheapest.proofs.Ranks.{rank_injective}
use Rattle.cheapest.proofs.TreeRows.{candidate_allowed}
use Rattle.cheapest.proofs.Rankings.{rank_below, ranking_candidates}
use Rattle.cheapest.proofs.Numbers.{numbers_lawful}
use Rattle.cheapest.proofs.Listed.{key_of}

module _ (test : ℕ → Bool) where
  passing_append : (xs ys : List ℕ) → passing test (xs ++ ys) ≡ passing test xs ++ passing test ys
  passing_append [] ys = refl
  passing_append (x ∷ xs) ys =
      let more = passing_append xs ys in
      elim (cases_Bool (test x)) [
        | inl t ↦ cond-true (test x) (x ∷ passing test (xs ++ ys)) (passing test (xs ++ ys)) t ∙ ap (λ zs. x ∷ zs) more
            ∙ ap (λ zs. zs ++ passing test ys) (sym (cond-true (test x) (x ∷ passing test xs) (passing test xs) t))
        | inr f ↦ cond-false (test x) (x ∷ passing test (xs ++ ys)) (passing test (xs ++ ys)) f ∙ more
            ∙ ap (λ zs. zs ++ passing test ys) (sym (cond-false (test x) (x ∷ passing test xs) (passing test xs) f))
      ]

  -- one more link is looked at
  pub passing_in_more : (xs : List ℕ) (k x : ℕ) → k < length xs → get_or xs k 0 ≡ x → test x ≡ true → passing test (take (k + 1) xs) ≡ passing test (take k xs) ++ (x ∷ [])
  passing_in_more xs k x l e t =
      ap (passing test) (take_more xs k 0 l) ∙ passing_append (take k xs) (get_or xs k 0 ∷ [])
      ∙ ap (λ y. passing test (take k xs) ++ passing test (y ∷ [])) e
      ∙ ap (λ zs. passing test (take k xs) ++ zs) (cond-true (test x) (x ∷ []) [] t)

  pub passing_out_more : (xs : List ℕ) (k x : ℕ) → k < length xs → get_or xs k 0 ≡ x → test x ≡ false → passing test (take (k + 1) xs) ≡ passing test (take k xs)
  passing_out_more xs k x l e f =
      ap (passing test) (take_more xs k 0 l) ∙ passing_append (take k xs) (get_or xs k 0 ∷ [])
      ∙ ap (λ y. passing test (take k xs) ++ passing test (y ∷ [])) e
      ∙ ap (λ zs. passing test (take k xs) ++ zs) (cond-false (test x) (x ∷ []) [] f)
      ∙ append-nil (passing test (take k xs))

module _ (p : Plan) where
  pub plan_ranking : Ranking (key_of p) p.count (take p.count p.order)
  plan_ranking =
      let m = p.count in
      let key = key_of p in
      let at : (k : ℕ) → k < m → get_or (take m p.order) k 0 ≡ get_or p.order k 0 = λ k l. get_or-take m p.order k 0 l in
      let room = p.room in
      let wide = p.wide in
      record {
        size = length-take-le m p.order (omega arith);
        links = λ k l. omega (arith, at k l, p.inside k l);
        ranks = λ k l. ap key (at k l) ∙ p.ranks k l;
        back = λ e l.
            let small = rank_below numbers numbers_lawful (mark_of p) m e l in
            let x = get_or p.order (key e) 0 in
            at (key e) small ∙ rank_injective numbers (mark_of p) numbers_lawful m x e (p.inside (key e) small) l (p.ranks (key e) small);
      }

  -- the numbers of the links in rank order
  abbrev pub numbered : List ℕ
  numbered = take p.count p.order

  -- a link of the plan, read out
  abbrev pub read : ℕ → Candidate
  read e = record { number = e; start = (link_at p.links e).from; end = (link_at p.links e).to; class = (link_at p.links e).mark }

  -- The first n places hold the usable links of the first i in rank order.
  pub record Selected (i : ℕ) (items : List Candidate) (n : ℕ) : Type 0 where
    pub wide : length items ≡ 512
    pub few : n ≤ i
    pub selects : map (λ (x : Candidate). x.number) (take n items) ≡ passing (graph_of p).usable (take i numbered)
    pub reads : (c : ℕ) → c < n → candidate_at items c ≡ read (candidate_at items c).number

  pub selected_none : (items : List Candidate) → length items ≡ 512 → Selected 0 items 0
  selected_none items wide = record { wide = wide; few = omega arith; selects = refl; reads = λ c l. absurd (omega arith) }

  numbered_all : length numbered ≡ p.count
  numbered_all = length-take-le p.count p.order (omega (arith, p.room, p.wide))

  pub selected_free : {i : ℕ} {items : List Candidate} {n : ℕ} → Selected i items n → i < length numbered → n < 512
  selected_free here l = omega (arith, here.few, numbered_all, p.room)

  module _ {i : ℕ} {items items' : List Candidate} {n n' : ℕ} (here : Selected i items n) (l : i < length numbered) where
    pub selected_in : (link_at p.links (get_or numbered i 0)).usable ≡ true → items' ≡ set items n (read (get_or numbered i 0)) → n' ≡ n + 1 → Selected (i + 1) items' n'
    selected_in may is more =
        let e = get_or numbered i 0 in
        let free : n < length items = omega (arith, here.wide, selected_free here l) in
        subst (λ (xs : List Candidate). Selected (i + 1) xs n') (sym is) (subst (λ (m : ℕ). Selected (i + 1) (set items n (read e)) m) (sym more) (record {
          wide = length-set items n (read e) ∙ here.wide;
          few = omega (arith, here.few);
          selects = ap (map (λ (x : Candidate). x.number)) (take_more_set items n (read e) free)
              ∙ map-append (λ (x : Candidate). x.number) (take n items) (read e ∷ [])
              ∙ ap (λ xs. xs ++ (e ∷ [])) here.selects
              ∙ sym (passing_in_more (graph_of p).usable numbered i e l refl may);
          reads = below_more (λ c. candidate_at (set items n (read e)) c ≡ read (candidate_at (set items n (read e)) c).number) n
              (λ c k. let same : candidate_at (set items n (read e)) c ≡ candidate_at items c = get_or-set_other items n c (read e) no_candidate (omega arith) in
              same ∙ here.reads c k ∙ ap (λ (x : Candidate). read x.number) (sym same))
              (let new : candidate_at (set items n (read e)) n ≡ read e = get_or-set_same items n (read e) no_candidate free in
              new ∙ ap (λ (x : Candidate). read x.number) (sym new));
        }))

    pub selected_out : (link_at p.links (get_or numbered i 0)).usable ≡ false → items' ≡ items → n' ≡ n → Selected (i + 1) items' n'
    selected_out may_not is more =
        subst (λ (xs : List Candidate). Selected (i + 1) xs n') (sym is) (subst (λ (m : ℕ). Selected (i + 1) items m) (sym more) (record {
          wide = here.wide;
          few = omega (arith, here.few);
          selects = here.selects ∙ sym (passing_out_more (graph_of p).usable numbered i (get_or numbered i 0) l refl may_not);
          reads = here.reads;
        }))

  module _ {i : ℕ} {items : List Candidate} {n : ℕ} (all : Selected i items n) (ends : i ≡ length numbered) where
    selected : map (λ (x : Candidate). x.number) (take n items) ≡ ranked_of p
    selected =
        all.selects ∙ ap (passing (graph_of p).usable) (take_all i numbered (omega arith))
        ∙ ranking_candidates (graph_of p) numbers numbers_lawful (mark_of p) (take p.count p.order) plan_ranking

    long : n ≤ length items
    long = omega (arith, all.wide, all.few, numbered_all, p.room)

    selected_count : n ≡ length (ranked_of p)
    selected_count = sym (length-take-le n items long) ∙ sym (length-map (take n items) (λ (x : Candidate). x.number)) ∙ ap length selected

    selected_at : (c : ℕ) → c < n → (candidate_at items c).number ≡ get_or (ranked_of p) c 0
    selected_at c l =
        ap (λ (x : Candidate). x.number) (sym (get_or-take n items c no_candidate l))
        ∙ sym (get_or-map (λ (x : Candidate). x.number) (take n items) c no_candidate)
        ∙ ap (λ xs. get_or xs c 0) selected

    selected_inside : (c : ℕ) → c < n → (candidate_at items c).number < p.count
    selected_inside c l = omega (
      arith,
      selected_at c l,
      (candidate_allowed (graph_of p) (key_of p) (get_or (ranked_of p) c 0) (in_get_d (ranked_of p) c 0 (omega (arith, selected_count)))).0,
    )

    -- the facts that the candidates keep, in the order of their fields
    pub selected_owed : record {
      room : n ≤ 512;
      all : n ≡ length (ranked_of p);
      numbers : (c : ℕ) → c < n → (candidate_at items c).number ≡ get_or (ranked_of p) c 0;
      starts : (c : ℕ) → c < n → (candidate_at items c).start ≡ (link_at p.links (candidate_at items c).number).from;
      ends : (c : ℕ) → c < n → (candidate_at items c).end ≡ (link_at p.links (candidate_at items c).number).to;
      classes : (c : ℕ) → c < n → (candidate_at items c).class ≡ mark_of p (candidate_at items c).number;
      startfits : (c : ℕ) → c < n → (candidate_at items c).start < 64;
      endfits : (c : ℕ) → c < n → (candidate_at items c).end < 64;
    }
    selected_owed = record {
      room = omega (arith, all.few, numbered_all, p.room);
      all = selected_count;
      numbers = selected_at;
      starts = λ c l. ap (λ (x : Candidate). x.start) (all.reads c l);
      ends = λ c l. ap (λ (x : Candidate). x.end) (all.reads c l);
      classes = λ c l. ap (λ (x : Candidate). x.class) (all.reads c l);
      startfits = λ c l. omega (arith, ap (λ (x : Candidate). x.start) (all.reads c l), p.few, p.starts _ (selected_inside c l));
      endfits = λ c l. omega (arith, ap (λ (x : Candidate). x.end) (all.reads c l), p.few, p.ends _ (selected_inside c l));
    }
