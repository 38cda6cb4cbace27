use Rattle.std.proofs.Common.{◌≡◌, ℕ, Bool, true, false, not, ◌&&◌, eqb, ltb, List, get_or, set, Decides, sym, refl, ap, ◌∙◌, subst}
use Rattle.std.proofs.lemmas.Bool.{le-ltb, and_left}
use Rattle.forests.specs.Graphs.{Graph, SitesJoined}
use Rattle.weights.specs.Amounts.{numbers}
use Rattle.cheapest.specs.Places.{link_at}
use Rattle.cheapest.specs.Plans.{graph_of, mark_of}
use Rattle.networks.specs.Closures.{states_of, closed_at}
use Rattle.networks.specs.Links.{open_below}
use Rattle.networks.specs.Trials.{open_only, without, FirstWritten}
use Rattle.networks.proofs.FirstRows.{put_back, closed_usable}
use Rattle.networks.proofs.Inside.{same_graph}
use Rattle.networks.proofs.trials.try_closed.Goals as goal

pub reopened-requires : goal.reopened-requires
reopened-requires c e past =
    let n = c.args.plan.now.count in
    c.requires.open e ∙ and_left (ltb e n) (not (closed_at c.args.closed.now e)) (le-ltb e n past)

pub returns : goal.returns
returns c =
    let p = c.args.plan.now in
    let link = c.args.link in
    let list = c.args.list.now in
    let list' = c.write_first.new.list in
    let r = c.write_first.result in
    let xs = states_of c.args.closed.now in
    let now-closed = c.put.new.self in
    let was = c.is_closed-was.ensures in
    let opened : open_only now-closed (graph_of p) ≡ without (graph_of p) link =
    same_graph p.sites p.count p.count (λ e. (link_at p.links e).from) (λ e. (link_at p.links e).from) (λ e. (link_at p.links e).to) (λ e. (link_at p.links e).to)
    (open_below now-closed p.count) (λ e. (link_at p.links e).usable && not (eqb e link)) refl (λ _. refl) (λ _. refl)
    (λ e. ap (λ (ys : List Bool). ltb e p.count && not (get_or ys e false)) c.put.ensures.puts ∙ closed_usable xs p.count link e c.put.ensures.wide p.room
    ∙ ap (λ (b : Bool). b && not (eqb e link)) (sym (c.requires.open e))) in
    let graph : graph_of c.reopened.result ≡ without (graph_of p) link = c.reopened.ensures.graph ∙ opened in
    record {
      joined = subst (λ (g : Graph). Decides r (SitesJoined g)) graph c.write_first.ensures.joined;
      writes = subst (λ (w : ℕ → ℕ). FirstWritten (without (graph_of p) link) numbers w r list list') c.reopened.ensures.marks
          (subst (λ (g : Graph). FirstWritten g numbers (mark_of c.reopened.result) r list list') graph c.write_first.ensures.writes);
      restores = λ e. ap (λ (ys : List Bool). get_or ys e false) c.drop-guard.ensures
          ∙ ap (λ (ys : List Bool). get_or (set ys link c.is_closed-was.result) e false) c.put.ensures.puts
          ∙ ap (λ (b : Bool). get_or (set (set xs link true) link b) e false) was
          ∙ put_back xs link e;
    }
