use Rattle.std.proofs.Common.{rules, ◌≡◌, ℕ, List, vec_items, sym, refl, ap, ◌∙◌}
use Rattle.forests.specs.Graphs.{SitesJoined}
use Rattle.networks.specs.Networks.{network_graph}
use Rattle.networks.specs.Refusals.{refusal_of}
use Rattle.walks.specs.Calls.{next, seek}
use Rattle.walks.specs.Turns.{asked_by}
use Rattle.walks.specs.Walks.{place_of, row_size}
use Rattle.walks.proofs.Performed.{take_front, next_event, seek_event, pour_event, event_as, heard_done}
use Rattle.walks.proofs.performing.act.Goals as goal

pub returns-in-Next-clause-performs : goal.returns-in-Next-clause-performs
returns-in-Next-clause-performs g c begun L full =
    let ρ = g.R.Receiver in
    let walk = c.args.walk.now in
    let r = c.args.receiver.now in
    let size = row_size walk.network in
    let J = SitesJoined (network_graph walk.network) in
    let n = c.next in
    let list = c.deref_mut.result.now in
    let same : list ≡ vec_items c.in-Next.list = c.deref_mut.ensures.value in
    event_as L size J (ρ.rule r) (place_of walk) (ρ.held r)
    (ap asked_by c.in-Next.is ∙ ap (λ (xs : List ℕ). next xs) (sym same))
    (ap (λ (xs : List ℕ). next xs) (take_front n.new.list _ c.in-Next.list.len (n.auto.list ∙ c.deref_mut.ensures.len)))
    (heard_done n.result c.map.result (search rules))
    (next_event L size J (ρ.rule r) (place_of walk) (ρ.held r) list n.new.list (refusal_of n.result) (place_of n.new.self) (n.ensures.acts begun L full))

pub returns-in-Pour-clause-performs : goal.returns-in-Pour-clause-performs
returns-in-Pour-clause-performs g c begun L full =
    let ρ = g.R.Receiver in
    let walk = c.args.walk.now in
    let r = c.args.receiver.now in
    let size = row_size walk.network in
    let J = SitesJoined (network_graph walk.network) in
    let p = c.pour-count in
    event_as L size J (ρ.rule r) (place_of walk) (ρ.held r) (ap asked_by c.in-Pour.is) refl refl
    (pour_event L size J (ρ.rule r) (place_of walk) (ρ.held r) c.in-Pour.limit p.result.0 p.result.1 (place_of p.new.self) (ρ.held p.new.receiver) (p.ensures.acts begun L full))

pub returns-in-Seek-clause-performs : goal.returns-in-Seek-clause-performs
returns-in-Seek-clause-performs g c begun L full =
    let ρ = g.R.Receiver in
    let walk = c.args.walk.now in
    let r = c.args.receiver.now in
    let size = row_size walk.network in
    let J = SitesJoined (network_graph walk.network) in
    let s = c.seek in
    let same : c.deref.result.now ≡ vec_items c.in-Seek.row = c.deref.ensures.value in
    let row = ap (λ (xs : List ℕ). seek xs) (sym same) in
    event_as L size J (ρ.rule r) (place_of walk) (ρ.held r) (ap asked_by c.in-Seek.is ∙ row) row (heard_done s.result c.map-in-Seek.result (search rules))
    (seek_event L size J (ρ.rule r) (place_of walk) (ρ.held r) c.deref.result.now (refusal_of s.result) (place_of s.new.self) (s.ensures.acts begun L full))
