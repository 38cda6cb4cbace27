-- When links are not written.
use Rattle.std.specs.Prelude.{ℕ, ◌+◌, ◌*◌, not, ◌&&◌, List, [], ◌∷◌, nat_le, nat_lt}
use Rattle.networks.specs.Refusals.{Rule, at}
use Rattle.networks.specs.declared.refusals.Layer.TheVariants.{Sheet, Network}

-- the sites are not 1 to 64; there are more than 512 links; the list of bytes has too little room for the sheet
abbrev pub write_rules : (width sites links room : ℕ) → List Rule
write_rules width sites links room =
    (not (nat_le 1 sites && nat_le sites 64), at Network 5 0)
    ∷ (nat_lt 512 links, at Network 6 0)
    ∷ (nat_lt room (9 + links * (2 + width)), at Sheet 10 room)
    ∷ []
