-- Two runs on networks with the same links, whose weights compare alike, bring the same.
use Rattle.std.proofs.Common.{◌≡◌, ℕ, ◌-◌, not, ◌&&◌, ltb, List, map, sym, ap, ◌∙◌, subst}
use Rattle.forests.specs.Graphs.{Graph, Fits, SitesJoined}
use Rattle.weights.specs.Scales.{Lawful, Weighing}
use Rattle.cheapest.specs.Trees.{FullList}
use Rattle.cheapest.proofs.SameRows.{same_rows}
use Rattle.cheapest.proofs.Theorems.{one_list}
use Rattle.networks.specs.Networks.{links_of, network_graph, weights_of}
use Rattle.networks.specs.declared.networks.Network.{Network}
use Rattle.networks.proofs.Inside.{from_inside, to_inside}
use Rattle.receivers.specs.Rules.{Rule}
use Rattle.walks.specs.Promises.{Promised, SameLinks, WeighAlike, SameRun}
use Rattle.walks.specs.Runs.{Kept}
use Rattle.walks.specs.Turns.{asked, left_by, heard_of}
use Rattle.walks.specs.Walks.{row_size, Listed, OneList}
use Rattle.walks.specs.declared.turns.Turn.{Turn}
use Rattle.walks.proofs.Agreeing.{kept_same}
use Rattle.walks.proofs.Listed.{listed_once, not_joined_empty}

-- the links of a network run between its sites
pub network_fits : {K : Type 0} (n : Network K) → Fits (network_graph n)
network_fits n = record { from_fits = from_inside n.sites (links_of n) n.ends; to_fits = to_inside n.sites (links_of n) n.ends }

-- a network has exactly one full list
pub one_listed : {K : Type 0} (kind : Weighing K) (laws : Lawful kind.scale) (n : Network K) → OneList kind n
one_listed kind laws n =
    let list = one_list kind.scale laws (network_graph n) (network_fits n) (weights_of kind n) in
    record { full = list.0; listed = list.1; only = list.2 }

-- networks with the same links have one graph
pub one_graph : {K K' : Type 0} (n : Network K) (n' : Network K') → SameLinks n n' → network_graph n ≡ network_graph n'
one_graph n n' same =
    λ i. record {
      sites = same.sites i;
      links = same.links i;
      from = λ e. same.from e i;
      to = λ e. same.to e i;
      usable = λ e. ltb e (same.links i) && not (same.closed e i);
    }

module _ {K K' : Type 0} (kind : Weighing K) (kind' : Weighing K') (laws : Lawful kind.scale) (laws' : Lawful kind'.scale)
    (n : Network K) (n' : Network K') (same : SameLinks n n') (alike : WeighAlike kind kind' n n') where
  -- they have one full list
  pub one_full : (L L' : List (List ℕ)) → Listed kind n L → Listed kind' n' L' → L' ≡ L
  one_full L L' full full' =
      let w = weights_of kind n in
      let w' = weights_of kind' n' in
      let there : FullList (network_graph n) kind'.scale w' L = ((same_rows kind.scale kind'.scale laws laws' (network_graph n) (network_fits n) w w' alike).1 L).0 full in
      let list = one_list kind'.scale laws' (network_graph n') (network_fits n') w' in
      list.2 L' full' ∙ sym (list.2 L (subst (λ (g : Graph). FullList g kind'.scale w' L) (one_graph n n' same) there))

  pub same_run : (rule rule' : Rule) (held held₁ held' held₁' : List ℕ) (turns turns₁ others others₁ : List Turn)
      → Promised kind n rule held held₁ turns turns₁ → Promised kind' n' rule' held' held₁' others others₁
      → rule ≡ rule' → held ≡ held' → asked turns ≡ asked others → SameRun turns₁ others₁ held₁ held₁'
  same_run rule rule' held held₁ held' held₁' turns turns₁ others others₁ p p' same-rule same-held same_asked =
      let L = p.full in
      let g = network_graph n in
      let graph = one_graph n n' same in
      let kept' : Kept L (row_size n) (SitesJoined (network_graph n')) rule held p'.events held₁' =
      subst (λ (h : List ℕ). Kept L (row_size n) (SitesJoined (network_graph n')) rule h p'.events held₁') (sym same-held)
      (subst (λ (ρ : Rule). Kept L (row_size n) (SitesJoined (network_graph n')) ρ held' p'.events held₁') (sym same-rule)
      (subst (λ (size : ℕ). Kept L size (SitesJoined (network_graph n')) rule' held' p'.events held₁') (ap (λ (m : ℕ). m - 1) (sym same.sites))
      (subst (λ (xs : List (List ℕ)). Kept xs (row_size n') (SitesJoined (network_graph n')) rule' held' p'.events held₁') (one_full L p'.full p.listed p'.listed) p'.kept))) in
      let (events, holding) = kept_same L (row_size n) rule (listed_once _ _ L p.listed) (SitesJoined g) (SitesJoined (network_graph n'))
      (subst (λ (h : Graph). SitesJoined h) graph) (subst (λ (h : Graph). SitesJoined h) (sym graph)) (not_joined_empty g kind.scale (weights_of kind n) L p.listed) held
      held₁ held₁' p.events p'.events p.kept kept' (sym p.told.asks ∙ same_asked ∙ p'.told.asks) in
      record {
        lists = p.told.leaves ∙ ap (map left_by) events ∙ sym p'.told.leaves;
        answers = p.told.hears ∙ ap (map heard_of) events ∙ sym p'.told.hears;
        holding = holding;
      }
