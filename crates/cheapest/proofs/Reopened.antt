-- A plan with other links open: the ends, the marks and the ranking stay.
use Rattle.std.proofs.Common.{◌≡◌, ℕ, ◌+◌, ◌<◌, ◌≤◌, Bool, false, not, ◌&&◌, eqb, List, length, get_or, set, sym, refl, ap, ◌∙◌, subst, inl, inr, arith, below_more}
use mathlib.Core.Path.{fun_ext}
use Rattle.std.proofs.Math.Bool.{and-true}
use Rattle.std.proofs.lemmas.List.{length-set, get_or-set_same, get_or-set_other, get_or_past}
use Rattle.std.proofs.lemmas.Bool.{cases_eq, cases_lt, eq-eqb, ne_eqb, and_right, not_from_true}
use Rattle.weights.specs.Amounts.{numbers}
use Rattle.forests.specs.Graphs.{Graph}
use Rattle.cheapest.specs.Ranks.{rank_of}
use Rattle.cheapest.specs.Places.{no_link, link_at}
use Rattle.cheapest.specs.Plans.{graph_of, mark_of}
use Rattle.cheapest.specs.declared.plan.Plan.{Plan}
use Rattle.cheapest.specs.declared.plan.PlanLink.{PlanLink}

abbrev pub opened : PlanLink → Bool → PlanLink
opened link usable = record { from = link.from; to = link.to; mark = link.mark; usable = usable }

-- each link is as before, but may be chosen if the test says so
pub record Reopened (links links' : List PlanLink) (usable : ℕ → Bool) : Type 0 where
  pub wide : length links' ≡ length links
  pub same : (e : ℕ) → link_at links' e ≡ opened (link_at links e) (usable e)

module _ (p : Plan) {links : List PlanLink} {usable : ℕ → Bool} (h : Reopened p.links links usable) where
  pub reopened_marks : (λ (e : ℕ). (link_at links e).mark) ≡ mark_of p
  reopened_marks = fun_ext (λ e. ap (λ (l : PlanLink). l.mark) (h.same e))

  pub reopened_graph : ◌≡◌ {A = Graph}
      (record { sites = p.sites; links = p.count; from = λ e. (link_at links e).from; to = λ e. (link_at links e).to; usable = λ e. (link_at links e).usable })
      (record { sites = p.sites; links = p.count; from = (graph_of p).from; to = (graph_of p).to; usable = usable })
  reopened_graph =
      ap (λ (at : ℕ → PlanLink). record { sites = p.sites; links = p.count; from = λ e. (at e).from; to = λ e. (at e).to; usable = λ e. (at e).usable })
      (fun_ext h.same)

  -- the facts that a plan keeps, in the order of its fields
  pub reopened_owed : record {
    few : p.sites ≤ 64;
    room : p.count ≤ 512;
    wide : length p.order ≡ 512;
    widelinks : length links ≡ 512;
    starts : (e : ℕ) → e < p.count → (link_at links e).from < p.sites;
    ends : (e : ℕ) → e < p.count → (link_at links e).to < p.sites;
    inside : (k : ℕ) → k < p.count → get_or p.order k 0 < p.count;
    ranks : (k : ℕ) → k < p.count → rank_of numbers (λ e. (link_at links e).mark) p.count (get_or p.order k 0) ≡ k;
  }
  reopened_owed = record {
    few = p.few;
    room = p.room;
    wide = p.wide;
    widelinks = h.wide ∙ p.widelinks;
    starts = λ e l. subst (λ (x : ℕ). x < p.sites) (sym (ap (λ (x : PlanLink). x.from) (h.same e))) (p.starts e l);
    ends = λ e l. subst (λ (x : ℕ). x < p.sites) (sym (ap (λ (x : PlanLink). x.to) (h.same e))) (p.ends e l);
    inside = p.inside;
    ranks = λ k l. ap (λ (w : ℕ → ℕ). rank_of numbers w p.count (get_or p.order k 0)) reopened_marks ∙ p.ranks k l;
  }

-- the first i links have been gone through
pub record Reopening (links links' : List PlanLink) (usable : ℕ → Bool) (i : ℕ) : Type 0 where
  pub wide : length links' ≡ length links
  pub done : (e : ℕ) → e < i → link_at links' e ≡ opened (link_at links e) (usable e)
  pub rest : (e : ℕ) → i ≤ e → link_at links' e ≡ link_at links e

module _ (links : List PlanLink) (usable : ℕ → Bool) where
  pub reopening_none : Reopening links links usable 0
  reopening_none = record { wide = refl; done = λ e l. absurd (omega arith); rest = λ e l. refl }

  pub reopening_more : {links' links'' : List PlanLink} {i : ℕ} → Reopening links links' usable i → i < length links'
      → links'' ≡ set links' i (opened (link_at links' i) (usable i)) → Reopening links links'' usable (i + 1)
  reopening_more {links'} {links''} {i} here l is =
      let new = opened (link_at links' i) (usable i) in
      subst (λ (ls : List PlanLink). Reopening links ls usable (i + 1)) (sym is) (record {
        wide = length-set links' i new ∙ here.wide;
        done = below_more (λ e. link_at (set links' i new) e ≡ opened (link_at links e) (usable e)) i
            (λ e k. get_or-set_other links' i e new no_link (omega arith) ∙ here.done e k)
            (get_or-set_same links' i new no_link l ∙ ap (λ (x : PlanLink). opened x (usable i)) (here.rest i (omega arith)));
        rest = λ e k. get_or-set_other links' i e new no_link (omega arith) ∙ here.rest e (omega arith);
      })

  pub reopening_all : {links' : List PlanLink} {i : ℕ} → Reopening links links' usable i → length links ≤ i
      → ((e : ℕ) → length links ≤ e → usable e ≡ false) → Reopened links links' usable
  reopening_all {links'} {i} here ends past = record {
    wide = here.wide;
    same = λ e.
        elim (cases_lt e i) [
          | inl l ↦ here.done e l
          | inr m ↦ here.rest e m ∙ get_or_past links e no_link (omega arith)
              ∙ ap (λ (x : PlanLink). opened x false) (sym (get_or_past links e no_link (omega arith)))
              ∙ ap (opened (link_at links e)) (sym (past e (omega arith)))
        ];
  }

-- closing one link
abbrev pub but : List PlanLink → ℕ → ℕ → Bool
but links link e = (link_at links e).usable && not (eqb e link)

closed_here : (links : List PlanLink) (link e : ℕ) → e ≡ link → but links link e ≡ false
closed_here links link e h = and_right (link_at links e).usable (not (eqb e link)) (not_from_true (eqb e link) (eq-eqb e link h))

-- a link that is not the closed one is as it was
as_it_was : (links : List PlanLink) (link e : ℕ) → (e ≡ link → ⊥) → link_at links e ≡ opened (link_at links e) (but links link e)
as_it_was links link e ne =
    let l = link_at links e in
    sym (ap (λ b. opened l (l.usable && not b)) (ne_eqb e link ne) ∙ ap (opened l) (and-true l.usable))

pub one_closed : (links : List PlanLink) (link : ℕ) {links' : List PlanLink} → link < length links → links' ≡ set links link (opened (link_at links link) false)
    → Reopened links links' (but links link)
one_closed links link l is = subst (λ ls. Reopened links ls (but links link)) (sym is) (record {
  wide = length-set links link (opened (link_at links link) false);
  same = λ e. elim (cases_eq e link) [
    | inl h ↦ ap (link_at (set links link (opened (link_at links link) false))) h ∙ get_or-set_same links link (opened (link_at links link) false) no_link l
        ∙ ap (λ k. opened (link_at links k) false) (sym h)
        ∙ ap (opened (link_at links e)) (sym (closed_here links link e h))
    | inr ne ↦ get_or-set_other links link e (opened (link_at links link) false) no_link ne ∙ as_it_was links link e ne
  ];
})

-- a number past the list closes nothing
pub none_closed : (links : List PlanLink) (link : ℕ) {links' : List PlanLink} → length links ≤ link → links' ≡ links → Reopened links links' (but links link)
none_closed links link l is = subst (λ ls. Reopened links ls (but links link)) (sym is) (record {
  wide = refl;
  same = λ e. elim (cases_eq e link) [
    | inl h ↦ get_or_past links e no_link (omega arith) ∙ ap (λ l. opened l false) (sym (get_or_past links e no_link (omega arith)))
        ∙ ap (opened (link_at links e)) (sym (closed_here links link e h))
    | inr ne ↦ as_it_was links link e ne
  ];
})
