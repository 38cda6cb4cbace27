-- The rules of opening, link by link.
use Rattle.std.proofs.Common.{◌≡◌, ℕ, ◌+◌, true, not, ◌&&◌, eqb, ltb, List, [], ◌∷◌, None, refl}
use Rattle.std.proofs.lemmas.Bool.{and_from, not_from_false, not-false, and_parts}
use Rattle.networks.specs.Links.{sound}
use Rattle.networks.specs.Opening.{link_rules}
use Rattle.networks.specs.Refusals.{first_of}
use Rattle.networks.specs.declared.links.Link.{Link}
use Rattle.networks.proofs.Rules.{passed}

-- links that no rule refuses are sound
pub sound_links : {W : Type 0} (sites number : ℕ) (links : List (Link W)) → first_of (link_rules sites number links) ≡ None → sound sites links ≡ true
sound_links sites number [] h = refl
sound_links sites number (link ∷ links) h =
    let first = passed (not (ltb link.from sites && ltb link.to sites)) _ _ h in
    let second = passed (eqb link.from link.to) _ _ first.1 in
    let ends = and_parts (ltb link.from sites) (ltb link.to sites) (not-false _ first.0) in
    and_from _ _
    (and_from _ _ ends.0 (and_from _ _ ends.1 (not_from_false _ second.0)))
    (sound_links sites (number + 1) links second.1)
