-- When records are refused.
use Rattle.std.specs.Prelude.{◌≡◌, ℕ, ◌+◌, ◌<◌, ◌≤◌, true, not, ◌&&◌, List, [], ◌∷◌, length, take, Some, None, ◌==◌, nat_le, nat_lt}
use Rattle.networks.specs.Links.{sound, from_of, to_of}
use Rattle.networks.specs.Refusals.{Rule, at, first_of}
use Rattle.networks.specs.declared.links.Link.{Link}
use Rattle.networks.specs.declared.refusals.Layer.TheVariants.{Network}

module _ {W : Type 0} where
  -- link by link, the first of them having this number: an end is no site, or both ends are one.
  -- So the first faulty link decides
  abbrev pub link_rules : ℕ → ℕ → List (Link W) → List Rule
  link_rules sites number [] = []
  link_rules sites number (link ∷ links) =
      (not (nat_lt link.from sites && nat_lt link.to sites), at Network 8 number)
      ∷ ((link.from == link.to), at Network 9 number)
      ∷ link_rules sites (number + 1) links

  -- the number of sites is not 1 to 64; there are more than 512 links; a link is faulty
  abbrev pub open_rules : ℕ → List (Link W) → List Rule
  open_rules sites links =
      (not (nat_le 1 sites && nat_le sites 64), at Network 5 0)
      ∷ (nat_lt 512 (length links), at Network 6 0)
      ∷ link_rules sites 0 links

-- Nothing else is refused, and of faulty links the first.
pub record OpeningLaws (W : Type 0) : Type 0 where
  pub accepts : (sites : ℕ) (links : List (Link W)) → 1 ≤ sites → sites ≤ 64 → length links ≤ 512 → sound sites links ≡ true → first_of (open_rules sites links) ≡ None
  -- with 8, the links before the place are sound, and an end of the link there is no site
  pub outside : (sites : ℕ) (links : List (Link W)) (k : ℕ) → first_of (open_rules sites links) ≡ Some (at Network 8 k) → (k < length links) × (sound sites (take k links) ≡ true) × ((from_of links k < sites) × (to_of links k < sites) → ⊥)
  -- with 9, the links before the place are sound, and the link there joins one site to itself
  pub self_link : (sites : ℕ) (links : List (Link W)) (k : ℕ) → first_of (open_rules sites links) ≡ Some (at Network 9 k) → (k < length links) × (sound sites (take k links) ≡ true) × (from_of links k < sites) × (from_of links k ≡ to_of links k)
