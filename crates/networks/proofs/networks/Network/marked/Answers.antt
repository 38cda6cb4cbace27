use Rattle.std.proofs.Common.{◌≡◌, ℕ, ◌<◌, true, List, length, get_or, take, sym, ap, ◌∙◌, subst}
use Rattle.std.proofs.lemmas.List.{get_or-take}
use Rattle.weights.specs.Amounts.{numbers}
use Rattle.cheapest.specs.Places.{link_at}
use Rattle.cheapest.specs.Ranks.{Alike, rank_of}
use Rattle.cheapest.proofs.Ranks.{rank_alike}
use Rattle.networks.specs.Links.{sound, from_of, to_of, weight_of, lighter_than, open_below}
use Rattle.networks.specs.declared.links.Link.{Link}
use Rattle.networks.proofs.Alike.{marks_alike}
use Rattle.networks.proofs.Inside.{from_inside, to_inside, same_graph}
use Rattle.networks.proofs.networks.Network.marked.Goals as goal

pub invariant_of-result : goal.invariant_of-result
invariant_of-result g c =
    let k = g.K.WeightKind in
    let n = c.args.self.now in
    let links = c.links-links.result.now in
    let m = length links in
    let w : ℕ → k.weighing.scale.Amount = weight_of k.weighing links in
    let order = c.rank_links.result in
    let mark : ℕ → ℕ = λ e. (link_at c.marked_links.result e).mark in
    let good : sound n.sites links ≡ true = ap (sound n.sites) c.links-links.ensures.value ∙ n.ends in
    let alike : Alike numbers k.weighing.scale mark w m = marks_alike k.weighing.scale g.met.K.WeightKind.lawful w m mark c.marked_links.ensures.marks in
    let ranking = c.rank_links.ensures.ranks in
    let place : (i : ℕ) → i < m → get_or order i 0 ≡ get_or (take m order) i 0 = λ i l. sym (get_or-take m order i 0 l) in
    let inside : (i : ℕ) → i < m → get_or order i 0 < m = λ i l. subst (λ (x : ℕ). x < m) (sym (place i l)) (ranking.links i l) in
    record {
      few = n.few;
      room = c.links-links.ensures.few;
      wide = c.rank_links.ensures.len;
      widelinks = c.marked_links.ensures.len;
      starts = λ e l. subst (λ (x : ℕ). x < n.sites) (sym (c.marked_links.ensures.starts e)) (from_inside n.sites links good e l);
      ends = λ e l. subst (λ (x : ℕ). x < n.sites) (sym (c.marked_links.ensures.ends e)) (to_inside n.sites links good e l);
      inside = inside;
      ranks = λ i l. rank_alike numbers k.weighing.scale mark w m (get_or order i 0) alike (inside i l) ∙ ap (rank_of k.weighing.scale w m) (place i l) ∙ ranking.ranks i l;
    }

pub returns : goal.returns
returns g c =
    let k = g.K.WeightKind in
    let n = c.args.self.now in
    let links = c.links-links.result.now in
    let m = length links in
    let w : ℕ → k.weighing.scale.Amount = weight_of k.weighing links in
    let mark : ℕ → ℕ = λ e. (link_at c.marked_links.result e).mark in
    let same = c.links-links.ensures.value in
    let alike : Alike numbers k.weighing.scale mark w m = marks_alike k.weighing.scale g.met.K.WeightKind.lawful w m mark c.marked_links.ensures.marks in
    record {
      graph = same_graph n.sites m (length (take n.count n.links)) (λ e. (link_at c.marked_links.result e).from) (from_of (take n.count n.links)) (λ e. (link_at c.marked_links.result e).to) (to_of (take n.count n.links)) (λ e. (link_at c.marked_links.result e).usable) (open_below n.closed (length (take n.count n.links)))
          (ap length same)
          (λ e. c.marked_links.ensures.starts e ∙ ap (λ (ls : List (Link g.row.K.Denot)). from_of ls e) same)
          (λ e. c.marked_links.ensures.ends e ∙ ap (λ (ls : List (Link g.row.K.Denot)). to_of ls e) same)
          (λ e. c.marked_links.ensures.opens e ∙ ap (λ (ls : List (Link g.row.K.Denot)). open_below n.closed (length ls) e) same);
      alike = subst (λ (ls : List (Link g.row.K.Denot)). Alike numbers k.weighing.scale mark (weight_of k.weighing ls) (length ls)) same alike;
      marks = subst (λ (ls : List (Link g.row.K.Denot)). (e : ℕ) → e < length ls → mark e ≡ lighter_than k.weighing.scale (weight_of k.weighing ls) (length ls) e) same c.marked_links.ensures.marks;
    }
