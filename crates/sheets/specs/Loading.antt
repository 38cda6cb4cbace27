-- What loading makes of a sheet that is read.
use Rattle.std.specs.Prelude.{◌≡◌, ℕ, false, List, ◌++◌, length, drop, IfOk, Result}
use Rattle.networks.specs.Networks.{sites_of, links_of, closed_in}
use Rattle.networks.specs.Opening.{open_rules}
use Rattle.networks.specs.Refusals.{refusal_of, first_of}
use Rattle.networks.specs.declared.links.Link.{Link}
use Rattle.networks.specs.declared.networks.Network.{Network}
use Rattle.networks.specs.declared.refusals.Refusal.{Refusal}
use Rattle.sheets.specs.Layout.{sheet_of}

-- the sheet is that of some links between so many sites: these stand in the first places of the list afterwards, and
-- the answer is that of opening them
pub record Opened (letter width : ℕ) {K : Type 0} (bytes : K → List ℕ) (sheet : List ℕ) (before after : List (Link K)) (r : Result (Network K) Refusal) : Type 0 where
  pub sites : ℕ
  pub links : List (Link K)
  pub reads : sheet_of letter width bytes sites links ≡ sheet
  pub fills : after ≡ links ++ drop (length links) before
  pub refuses : refusal_of r ≡ first_of (open_rules sites links)
  pub opens : IfOk r (λ n. (sites_of n ≡ sites) × (links_of n ≡ links) × ((e : ℕ) → closed_in n e ≡ false))
