-- What becomes of a sheet.
use Rattle.std.specs.Prelude.{◌≡◌, ℕ, false, List, Some, Result, MatchOption}
use Rattle.std.specs.Result.{IsOkAnd}
use Rattle.networks.specs.Networks.{sites_of, links_of, closed_in}
use Rattle.networks.specs.Opening.{open_rules}
use Rattle.networks.specs.Refusals.{first_of, refusal_of}
use Rattle.networks.specs.declared.links.Link.{Link}
use Rattle.networks.specs.declared.networks.Network.{Network}
use Rattle.networks.specs.declared.refusals.Refusal.{Refusal}
use Rattle.networks.specs.declared.refusals.Report.{Report}
use Rattle.sheets.specs.Layout.{sheet_of}
use Rattle.sheets.specs.Reading.{read_rules}

-- the network of these links between so many sites, none of them closed
pub record NetworkOf {K : Type 0} (sites : ℕ) (links : List (Link K)) (n : Network K) : Type 0 where
  pub has_sites : sites_of n ≡ sites
  pub has_links : links_of n ≡ links
  pub none_closed : (e : ℕ) → closed_in n e ≡ false

-- a refusal with this report
abbrev pub RefusedWith : {T : Type 0} → Result T Refusal → Report → Type 0
RefusedWith r report = refusal_of r ≡ Some report

module _ (letter width : ℕ) {K : Type 0} (bytes : K → List ℕ) (sheet : List ℕ) where
  -- the sheet is that of some links between so many sites, of which this holds
  pub record Opens (Holds : ℕ → List (Link K) → Type 0) : Type 0 where
    pub sites : ℕ
    pub links : List (Link K)
    pub reads : sheet_of letter width bytes sites links ≡ sheet
    pub holds : Holds sites links

  -- the sheet is read as one kind, with room for all links that a sheet may have, and opened, and then one thing holds;
  -- or it is not read or not opened, and then another holds of the refusal's report
  abbrev pub Judged : (ℕ → List (Link K) → Type 0) → (Report → Type 0) → Type 0
  Judged Sound Refused =
      MatchOption (first_of (read_rules letter width sheet 512)) (Opens (λ sites links. MatchOption (first_of (open_rules sites links)) (Sound sites links) Refused)) Refused

  -- the sheet's network was loaded, or its refusal given
  abbrev pub Loads : Result (Network K) Refusal → Type 0
  Loads r = Judged (λ sites links. IsOkAnd r (NetworkOf sites links)) (RefusedWith r)
