-- The ends of sound links are sites, and a network's graph by parts.
use Rattle.std.proofs.Common.{◌≡◌, ℕ, zero, suc, ◌<◌, Bool, true, List, [], ◌∷◌, length, arith}
use Rattle.std.proofs.lemmas.Bool.{and_parts, ltb-true}
use Rattle.forests.specs.Graphs.{Graph}
use Rattle.networks.specs.Links.{sound, from_of, to_of}
use Rattle.networks.specs.declared.links.Link.{Link}

module _ {W : Type 0} (sites : ℕ) where
  pub from_inside : (links : List (Link W)) → sound sites links ≡ true → (e : ℕ) → e < length links → from_of links e < sites
  from_inside [] h e l = absurd (omega arith)
  from_inside (link ∷ links) h zero l = ltb-true link.from sites (and_parts _ _ (and_parts _ _ h).0).0
  from_inside (link ∷ links) h (suc e) l = from_inside links (and_parts _ _ h).1 e (omega arith)

  pub to_inside : (links : List (Link W)) → sound sites links ≡ true → (e : ℕ) → e < length links → to_of links e < sites
  to_inside [] h e l = absurd (omega arith)
  to_inside (link ∷ links) h zero l = ltb-true link.to sites (and_parts _ _ (and_parts _ _ (and_parts _ _ h).0).1).0
  to_inside (link ∷ links) h (suc e) l = to_inside links (and_parts _ _ h).1 e (omega arith)

-- graphs that agree in every part are equal
pub same_graph : (sites m n : ℕ) (from from' to to' : ℕ → ℕ) (usable usable' : ℕ → Bool) → m ≡ n → ((e : ℕ) → from e ≡ from' e) → ((e : ℕ) → to e ≡ to' e) → ((e : ℕ) → usable e ≡ usable' e) → ◌≡◌ {A = Graph} (record { sites = sites; links = m; from = from; to = to; usable = usable }) (record { sites = sites; links = n; from = from'; to = to'; usable = usable' })
same_graph sites m n from from' to to' usable usable' a b c d =
    λ i. record { sites = sites; links = a i; from = λ e. b e i; to = λ e. c e i; usable = λ e. d e i }
