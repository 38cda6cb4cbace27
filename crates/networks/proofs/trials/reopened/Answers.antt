use Rattle.std.proofs.Common.{◌≡◌, ℕ, ◌+◌, ◌-◌, ◌<◌, ◌≤◌, Bool, false, not, ltb, List, ◌++◌, length, take, drop, set, ap, ◌∙◌, sym, inl, inr, arith}
use Rattle.std.proofs.lemmas.Bool.{cases_lt, lt-ltb, le-ltb, and_left}
use Rattle.std.proofs.lemmas.List.{length-append, length-drop, length-take-le, get_or_append_left, get_or-append_right, get_or-drop, get_or-take}
use Rattle.cheapest.specs.Places.{no_link, link_at}
use Rattle.cheapest.proofs.Reopened.{Reopened, Reopening, opened, reopening_none, reopening_more, reopened_owed, reopened_graph, reopened_marks}
use Rattle.cheapest.specs.declared.plan.Plan.{Plan}
use Rattle.cheapest.specs.declared.plan.PlanLink.{PlanLink}
use Rattle.networks.specs.Closures.{closed_at}
use Rattle.networks.specs.declared.closed.Closed.{Closed}
use Rattle.networks.specs.Links.{open_below}
use Rattle.networks.proofs.trials.reopened.Goals as goal

first_links : (p : Plan) → length (take p.count p.links) ≡ p.count
first_links p = length-take-le p.count p.links (omega (arith, p.room, p.widelinks))

pub loop-number-init : goal.loop-number-init
loop-number-init c = reopening_none (take c.args.plan.now.count c.args.plan.now.links) (open_below c.args.closed.now c.args.plan.now.count)

pub loop-number-preserved : goal.loop-number-preserved
loop-number-preserved c =
    let p = c.args.plan.now in
    let closed = c.args.closed.now in
    let e = c.loop-number.number in
    let links = c.loop-number.link-items in
    let l : e < p.count = omega (arith, c.loop-number-test.true, first_links p) in
    let here : c.is_open-link.result ≡ open_below closed p.count e = (let h = c.is_open-link.ensures in let b = lt-ltb e p.count l in rw b h) in
    reopening_more (take p.count p.links) (open_below closed p.count) c.loop-number.invariant (omega (arith, c.loop-number-test.true, c.loop-number.invariant.wide))
    (ap (λ u. set links e (opened (link_at links e) u)) here)

-- where every link has been gone through, and the places past them have no open link
all_reopened : (p : Plan) (closed : Closed) {links : List PlanLink} {i : ℕ} → ((e : ℕ) → p.count ≤ e → (link_at p.links e).usable ≡ false)
    → Reopening (take p.count p.links) links (open_below closed p.count) i → length (take p.count p.links) ≤ i
    → Reopened p.links (links ++ drop p.count p.links) (open_below closed p.count)
all_reopened p closed {links} {i} unused here ends =
    let usable : ℕ → Bool = open_below closed p.count in
    let rest = drop p.count p.links in
    let long : length links ≡ p.count = here.wide ∙ first_links p in
    record {
      wide = omega (arith, length-append links rest, length-drop p.count p.links, long, p.room, p.widelinks);
      same = λ e. elim (cases_lt e p.count) [
        | inl l ↦ get_or_append_left links rest no_link e (omega (arith, long)) ∙ here.done e (omega (arith, ends, first_links p))
            ∙ ap (λ (x : PlanLink). opened x (usable e)) (get_or-take p.count p.links e no_link l)
        | inr m ↦
            let back : p.count + (e - p.count) ≡ e = omega arith in
            get_or-append_right links rest p.count e no_link long m ∙ get_or-drop p.count p.links (e - p.count) no_link ∙ ap (link_at p.links) back
            ∙ ap (opened (link_at p.links e)) (unused e m ∙ sym (and_left (ltb e p.count) (not (closed_at closed e)) (le-ltb e p.count m)))
      ];
    }

pub invariant_of-result : goal.invariant_of-result
invariant_of-result c = reopened_owed c.args.plan.now (all_reopened c.args.plan.now c.args.closed.now c.requires c.loop-number.invariant c.loop-number-test.false)

pub returns : goal.returns
returns c =
    let p = c.args.plan.now in
    let all = all_reopened p c.args.closed.now c.requires c.loop-number.invariant c.loop-number-test.false in
    record { graph = reopened_graph p all; marks = reopened_marks p all }
