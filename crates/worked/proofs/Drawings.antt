-- The graph and the metres of a network that is given link by link.
use Rattle.std.proofs.Common.{◌≡◌, ℕ, zero, suc, ◌<◌, Bool, true, not, ◌&&◌, ltb, List, [], ◌∷◌, map, length, get_or, sym, ap, ◌∙◌, subst₂, arith}
use mathlib.Core.List.{map-map}
use lib.ListN.{length-map}
use Rattle.std.proofs.lemmas.Bool.{and_parts, ltb-true}
use Rattle.std.specs.List.{list_all}
use Rattle.forests.specs.Graphs.{Graph, Fits}
use Rattle.weights.specs.Weighings.{by_metres}
use Rattle.weights.specs.declared.metres.Metres.{Metres}
use Rattle.networks.specs.Networks.{links_of, network_graph, weights_of}
use Rattle.networks.specs.declared.networks.Network.{Network}
use Rattle.worked.specs.Drawn.{Drawn, drawn_as, Draws, HoldsDrawn}

abbrev pub drawn_graph : ℕ → List Drawn → Graph
drawn_graph sites links = record {
  sites = sites;
  links = length links;
  from = λ e. get_or (map (λ link. link.0) links) e 0;
  to = λ e. get_or (map (λ link. link.1) links) e 0;
  usable = λ e. ltb e (length links) && true;
}

abbrev pub drawn_metres : List Drawn → ℕ → ℕ
drawn_metres links e = get_or (map (λ link. link.2) links) e 0

module _ (sites : ℕ) (links : List Drawn) (n : Network Metres) (d : Draws sites links n) where
  read : (part : Drawn → ℕ) (e : ℕ) → get_or (map (λ link. part (drawn_as link)) (links_of n)) e 0 ≡ get_or (map part links) e 0
  read part e = ap (λ xs. get_or xs e 0) (sym (map-map part drawn_as (links_of n)) ∙ ap (map part) d.links_are)

  many : length (links_of n) ≡ length links
  many = sym (length-map (links_of n) drawn_as) ∙ ap length d.links_are

  pub graph_drawn : drawn_graph sites links ≡ network_graph n
  graph_drawn =
      λ i. record {
        sites = sym d.sites_are i;
        links = sym many i;
        from = λ e. sym (read (λ link. link.0) e) i;
        to = λ e. sym (read (λ link. link.1) e) i;
        usable = λ e. ltb e (sym many i) && not (sym (d.all_open e) i);
      }

  pub metres_drawn : drawn_metres links ≡ weights_of by_metres n
  metres_drawn = λ i e. sym (read (λ link. link.2) e) i

-- what holds of the drawing holds of every network that is so drawn
pub holds_drawn : (sites : ℕ) (links : List Drawn) (P : Graph → (ℕ → ℕ) → Type 0) → P (drawn_graph sites links) (drawn_metres links) → HoldsDrawn sites links P
holds_drawn sites links P h n d = subst₂ P (graph_drawn sites links n d) (metres_drawn sites links n d) h

-- both ends of every link are below the number of sites
abbrev pub inside : ℕ → List Drawn → Bool
inside sites = list_all (λ link. ltb link.0 sites && ltb link.1 sites)

module _ (sites : ℕ) where
  ends_inside : (links : List Drawn) → inside sites links ≡ true → (e : ℕ) → e < length links
      → ((drawn_graph sites links).from e < sites) × ((drawn_graph sites links).to e < sites)
  ends_inside [] h e l = absurd (omega arith)
  ends_inside (link ∷ links) h zero l =
      let both = and_parts _ _ (and_parts _ _ h).0 in
      (ltb-true link.0 sites both.0, ltb-true link.1 sites both.1)
  ends_inside (link ∷ links) h (suc e) l = ends_inside links (and_parts _ _ h).1 e (omega arith)

  pub drawn_fits : (links : List Drawn) → inside sites links ≡ true → Fits (drawn_graph sites links)
  drawn_fits links h = record { from_fits = λ e l. (ends_inside links h e l).0; to_fits = λ e l. (ends_inside links h e l).1 }
