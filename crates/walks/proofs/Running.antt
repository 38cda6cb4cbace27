-- A run grows turn by turn.
use Rattle.std.proofs.Common.{◌≡◌, ℕ, ◌+◌, ◌<◌, List, [], ◌∷◌, ◌++◌, map, length, get_or, take, drop, set, None, Option, sym, refl, ap, ◌∙◌, subst, arith}
use mathlib.Core.List.{map-append}
use Rattle.std.proofs.lemmas.List.{drop-drop, take_all, take_more, take_more_set, drop-set-lt, get_or-drop, length-drop}
use Rattle.forests.specs.Graphs.{SitesJoined}
use Rattle.weights.specs.Scales.{Lawful, Weighing}
use Rattle.networks.specs.Networks.{network_graph, weights_of}
use Rattle.networks.specs.declared.networks.Network.{Network}
use Rattle.receivers.specs.Rules.{Rule}
use Rattle.walks.specs.Acts.{Stays}
use Rattle.walks.specs.Calls.{call_of}
use Rattle.walks.specs.Events.{Event, latest}
use Rattle.walks.specs.Promises.{Performs, Performed}
use Rattle.walks.specs.Runs.{Kept}
use Rattle.walks.specs.Steps.{Step}
use Rattle.walks.specs.Turns.{asked_by, heard_from, asked, heard, left_by, heard_of, Told}
use Rattle.walks.specs.Walks.{network_of, place_of, row_size, Listed, Begun}
use Rattle.walks.specs.declared.turns.Turn.{Turn}
use Rattle.walks.specs.declared.walks.Walk.{Walk}
use Rattle.cheapest.proofs.Theorems.{one_list}
use Rattle.walks.proofs.FromPlans.{graph_fits}
use Rattle.walks.proofs.Listed.{listed_once}
use Rattle.walks.proofs.Runs.{kept_none, kept_push}

-- After the first i turns of `turns₀`, now `turns`, the walk that began as walk₀ is `walk`, and the receiver, which
-- held `held₀`, holds `held`.
pub record Ran {K : Type 0} (kind : Weighing K) (walk₀ walk : Walk K) (rule : Rule) (held₀ held : List ℕ) (turns₀ turns : List Turn) (i : ℕ) : Type 0 where
  pub network : network_of walk ≡ network_of walk₀
  pub begun : Begun kind walk
  pub rest : drop i turns ≡ drop i turns₀
  pub so_far : (L : List (List ℕ)) → Listed kind (network_of walk₀) L
      → (events : List Event) × Told events (take i turns₀) (take i turns)
      × Kept L (row_size (network_of walk₀)) (SitesJoined (network_graph (network_of walk₀))) rule held₀ events held × (place_of walk ≡ latest events)

-- Told events of the first turns, and of one turn more.
told_more : (events : List Event) (e : Event) (turns₀ turns : List Turn) (i : ℕ) (d t : Turn) → i < length turns → drop i turns ≡ drop i turns₀
    → asked_by (get_or turns i d).call ≡ call_of e → asked_by t.call ≡ left_by e → heard_from t.answer ≡ heard_of e
    → Told events (take i turns₀) (take i turns) → Told (events ++ (e ∷ [])) (take (i + 1) turns₀) (take (i + 1) (set turns i t))
told_more events e turns₀ turns i d t inside rest a l h told =
    let same : get_or turns₀ i d ≡ get_or turns i d =
    ap (λ (k : ℕ). get_or turns₀ k d) (omega arith) ∙ sym (get_or-drop i turns₀ 0 d) ∙ ap (λ (xs : List Turn). get_or xs 0 d) (sym rest) ∙ get_or-drop i turns 0 d
    ∙ ap (λ (k : ℕ). get_or turns k d) (omega arith) in
    let inside₀ : i < length turns₀ = (let n = length-drop i turns in let m = length-drop i turns₀ in let k = ap length rest in omega arith) in
    let end = take_more_set turns i t inside in
    record {
      asks = ap asked (take_more turns₀ i d inside₀) ∙ map-append _ (take i turns₀) (get_or turns₀ i d ∷ [])
          ∙ ap (λ xs. xs ++ (asked_by (get_or turns₀ i d).call ∷ [])) told.asks
          ∙ ap (λ x. map call_of events ++ (x ∷ [])) (ap (λ (u : Turn). asked_by u.call) same ∙ a)
          ∙ sym (map-append call_of events (e ∷ []));
      leaves = ap asked end ∙ map-append _ (take i turns) (t ∷ []) ∙ ap (λ xs. xs ++ (asked_by t.call ∷ [])) told.leaves
          ∙ ap (λ x. map left_by events ++ (x ∷ [])) l ∙ sym (map-append left_by events (e ∷ []));
      hears = ap heard end ∙ map-append _ (take i turns) (t ∷ []) ∙ ap (λ xs. xs ++ (heard_from t.answer ∷ [])) told.hears
          ∙ ap (λ x. map heard_of events ++ (x ∷ [])) h ∙ sym (map-append heard_of events (e ∷ []));
    }

module _ {K : Type 0} (kind : Weighing K) (laws : Lawful kind.scale) (walk₀ : Walk K) (rule : Rule) (held₀ : List ℕ) (turns₀ : List Turn) where
  pub ran_none : Begun kind walk₀ → place_of walk₀ ≡ None → Ran kind walk₀ walk₀ rule held₀ held₀ turns₀ turns₀ 0
  ran_none begun before = record {
    network = refl;
    begun = begun;
    rest = refl;
    so_far = λ L full. ([], record { asks = refl; leaves = refl; hears = refl }, kept_none L (row_size (network_of walk₀)) (SitesJoined (network_graph (network_of walk₀))) rule held₀, before);
  }

  pub ran_more : (walk walk' : Walk K) (rule' : Rule) (held held' : List ℕ) (turns : List Turn) (i : ℕ) (d t : Turn) → i < length turns
      → Ran kind walk₀ walk rule held₀ held turns₀ turns i → rule' ≡ rule
      → Performs kind walk walk' rule' held held' (asked_by (get_or turns i d).call) (asked_by t.call) (heard_from t.answer)
      → Stays kind walk walk' → Ran kind walk₀ walk' rule held₀ held' turns₀ (set turns i t) (i + 1)
  ran_more walk walk' rule' held held' turns i d t inside ran same performs stays = record {
    network = stays.network ∙ ran.network;
    begun = stays.begun ran.begun;
    rest = drop-set-lt (i + 1) turns i t (omega arith)
        ∙ (sym (drop-drop 1 i turns) ∙ ap (drop 1) ran.rest ∙ drop-drop 1 i turns₀);
    so_far = λ L full.
        let (events, told, kept, place) = ran.so_far L full in
        let (e, a, l, h, step) = performs ran.begun L (subst (λ (n : Network K). Listed kind n L) (sym ran.network) full) in
        let step₀ : Step L (row_size (network_of walk₀)) (SitesJoined (network_graph (network_of walk₀))) rule (latest events) held e (place_of walk') held' =
        subst (λ (o : Option (List ℕ)). Step L (row_size (network_of walk₀)) (SitesJoined (network_graph (network_of walk₀))) rule o held e (place_of walk') held') place
        (subst (λ (ρ : Rule). Step L (row_size (network_of walk₀)) (SitesJoined (network_graph (network_of walk₀))) ρ (place_of walk) held e (place_of walk') held') same
        (subst (λ (n : Network K). Step L (row_size n) (SitesJoined (network_graph n)) rule' (place_of walk) held e (place_of walk') held') ran.network step)) in
        let (kept', place') = kept_push L (row_size (network_of walk₀)) (SitesJoined (network_graph (network_of walk₀))) rule held₀ (listed_once _ _ L full) held held' events e (place_of walk') kept step₀ in
        (events ++ (e ∷ []), told_more events e turns₀ turns i d t inside ran.rest a l h told, kept', place');
  }

  -- The full list exists, and all turns were performed.
  pub ran_all : (walk : Walk K) (held : List ℕ) (turns : List Turn) → length turns ≡ length turns₀
      → Ran kind walk₀ walk rule held₀ held turns₀ turns (length turns₀) → Performed kind (network_of walk₀) walk rule held₀ held turns₀ turns
  ran_all walk held turns same ran =
      let list = one_list kind.scale laws (network_graph (network_of walk₀)) (graph_fits walk₀) (weights_of kind (network_of walk₀)) in
      let (events, told, kept, place) = ran.so_far list.0 list.1 in
      record {
        promised = record {
          full = list.0;
          listed = list.1;
          events = events;
          told = subst (λ (xs : List Turn). Told events turns₀ xs) (take_all (length turns₀) turns (omega arith)) (subst (λ (xs : List Turn). Told events xs (take (length turns₀) turns)) (take_all (length turns₀) turns₀ (omega arith)) told);
          kept = kept;
        };
        network = ran.network;
        place = place;
        begun = ran.begun;
      }
