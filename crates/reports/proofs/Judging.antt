-- What becomes of a sheet that is loaded.
use Rattle.std.proofs.Common.{◌≡◌, ℕ, false, List, length, Some, None, Ok, Err, Option, Result, refl, subst, IfOk, MatchOption}
use Rattle.std.specs.Result.{IsOkAnd}
use Rattle.networks.specs.Networks.{sites_of, links_of, closed_in}
use Rattle.networks.specs.Opening.{open_rules}
use Rattle.networks.specs.Refusals.{first_of, refusal_of}
use Rattle.networks.specs.declared.links.Link.{Link}
use Rattle.networks.specs.declared.networks.Network.{Network}
use Rattle.networks.specs.declared.refusals.Refusal.{Refusal}
use Rattle.networks.specs.declared.refusals.Report.{Report}
use Rattle.sheets.specs.Loading.{Opened}
use Rattle.sheets.specs.Reading.{read_rules}
use Rattle.reports.specs.Judging.{NetworkOf, RefusedWith, Opens, Judged, Loads}

module _ (letter width : ℕ) {K : Type 0} (bytes : K → List ℕ) (sheet : List ℕ) where
  -- what follows for a sound sheet, and for a refusal
  module _ (Sound Sound' : ℕ → List (Link K) → Type 0) (Refused Refused' : Report → Type 0) (sound : (sites : ℕ) (links : List (Link K)) → Sound sites links → Sound' sites links) (refused : (report : Report) → Refused report → Refused' report) where
    by_opening : (sites : ℕ) (links : List (Link K)) (o : Option Report) → MatchOption o (Sound sites links) Refused → MatchOption o (Sound' sites links) Refused'
    by_opening sites links None h = sound sites links h
    by_opening sites links (Some report) h = refused report h

    by_reading : (o : Option Report) → MatchOption o (Opens letter width bytes sheet (λ sites links. MatchOption (first_of (open_rules sites links)) (Sound sites links) Refused)) Refused
        → MatchOption o (Opens letter width bytes sheet (λ sites links. MatchOption (first_of (open_rules sites links)) (Sound' sites links) Refused')) Refused'
    by_reading None h = record {
      sites = h.sites;
      links = h.links;
      reads = h.reads;
      holds = by_opening h.sites h.links (first_of (open_rules h.sites h.links)) h.holds;
    }
    by_reading (Some report) h = refused report h

    pub judged : Judged letter width bytes sheet Sound Refused → Judged letter width bytes sheet Sound' Refused'
    judged h = by_reading (first_of (read_rules letter width sheet 512)) h

  opened : (r : Result (Network K) Refusal) (sites : ℕ) (links : List (Link K)) → IfOk r (λ n. (sites_of n ≡ sites) × (links_of n ≡ links) × ((e : ℕ) → closed_in n e ≡ false)) → MatchOption (refusal_of r) (IsOkAnd r (NetworkOf sites links)) (RefusedWith r)
  opened (Ok n) sites links opens = record { has_sites = opens.0; has_links = opens.1; none_closed = opens.2 }
  opened (Err e) sites links opens = refl

  loaded : (before after : List (Link K)) (r : Result (Network K) Refusal) (o : Option Report) → MatchOption o (Opened letter width bytes sheet before after r) (λ report. (refusal_of r ≡ Some report) × (after ≡ before))
      → MatchOption o (Opens letter width bytes sheet (λ sites links. MatchOption (first_of (open_rules sites links)) (IsOkAnd r (NetworkOf sites links)) (RefusedWith r))) (RefusedWith r)
  loaded before after r None h = record {
    sites = h.sites;
    links = h.links;
    reads = h.reads;
    holds = subst (λ (o : Option Report). MatchOption o (IsOkAnd r (NetworkOf h.sites h.links)) (RefusedWith r)) h.refuses (opened r h.sites h.links h.opens);
  }
  loaded before after r (Some report) h = h.0

  -- what loading into 512 places promises
  pub loads : (before after : List (Link K)) (r : Result (Network K) Refusal) → length before ≡ 512 → MatchOption (first_of (read_rules letter width sheet (length before))) (Opened letter width bytes sheet before after r) (λ report. (refusal_of r ≡ Some report) × (after ≡ before)) → Loads letter width bytes sheet r
  loads before after r room h =
      subst (λ (n : ℕ). MatchOption (first_of (read_rules letter width sheet n)) (Opens letter width bytes sheet (λ sites links. MatchOption (first_of (open_rules sites links)) (IsOkAnd r (NetworkOf sites links)) (RefusedWith r))) (RefusedWith r)) room
      (loaded before after r (first_of (read_rules letter width sheet (length before))) h)
