-- From what loading gave to what is printed.
use Rattle.std.proofs.Common.{◌≡◌, ℕ, List, [], ◌∷◌, ◌++◌, Ok, Err, Result, sym, refl, ap, ◌∙◌, subst}
use Rattle.std.specs.Result.{IsOkAnd}
use Rattle.std.proofs.lemmas.Option.{none-some, same_Some}
use Rattle.weights.specs.Scales.{Weighing}
use Rattle.networks.specs.Refusals.{report_of, line_of}
use Rattle.networks.specs.declared.links.Link.{Link}
use Rattle.networks.specs.declared.networks.Network.{Network}
use Rattle.networks.specs.declared.refusals.Refusal.{Refusal}
use Rattle.networks.specs.declared.refusals.Report.{Report as Told}
use Rattle.reports.specs.Judging.{NetworkOf, RefusedWith, Loads}
use Rattle.reports.specs.Listing.{Report}
use Rattle.reports.specs.Kinds.{form_of}
use Rattle.reports.specs.Reports.{RefusedText, PrintsLoaded, PutsReport, PutsNetwork}
use Rattle.reports.specs.Sinks.{PutOut}
use Rattle.reports.specs.declared.answers.Kind.{Kind}
use Rattle.reports.proofs.Judging.{judged}

module _ {K : Type 0} (kind : Weighing K) (shown : kind.scale.Amount → List ℕ) (text : List ℕ) where
  sound : (r : Result (Network K) Refusal) → PrintsLoaded kind shown r text → (sites : ℕ) (links : List (Link K)) → IsOkAnd r (NetworkOf sites links) → (n : Network K) × NetworkOf sites links n × Report kind shown n text
  sound (Ok n) prints sites links h = (n, h, prints)
  sound (Err e) prints sites links h = absurd h

  refused : (r : Result (Network K) Refusal) → PrintsLoaded kind shown r text → (report : Told) → RefusedWith r report → RefusedText text report
  refused (Ok n) prints report e = absurd (none-some report e)
  refused (Err e) prints report same = prints ∙ ap (λ (x : Told). line_of x ++ (10 ∷ [])) (same_Some (report_of e) report same)

-- the report of a sheet that is loaded as this kind
module _ {S : Type 0} (took : S → List ℕ → S → Type 0) (start end : S) (kind : Kind) (sheet : List ℕ) (r : Result (Network (form_of kind).Weight) Refusal)
    (loads : Loads (form_of kind).letter (form_of kind).width (form_of kind).bytes sheet r) where
  reported : (text : List ℕ) → PrintsLoaded (form_of kind).weighing (form_of kind).shown r text → PutOut took start text end → PutsReport took kind sheet start end
  reported text prints put =
      let form = form_of kind in (
        text,
        judged form.letter form.width form.bytes sheet _ _ _ _ (sound form.weighing form.shown text r prints) (refused form.weighing form.shown text r prints) loads,
        put,
      )

  -- where a network was loaded, its report
  pub network_reported : (n : Network (form_of kind).Weight) → r ≡ Ok n → PutsNetwork (form_of kind).weighing (form_of kind).shown took n start end → PutsReport took kind sheet start end
  network_reported n is (text, report, put) =
      let form = form_of kind in
      reported text (subst (λ (x : Result (Network form.Weight) Refusal). PrintsLoaded form.weighing form.shown x text) (sym is) report) put

  -- where it was refused, the refusal's line
  pub refusal_reported : (e : Refusal) → r ≡ Err e → PutOut took start (line_of (report_of e) ++ (10 ∷ [])) end → PutsReport took kind sheet start end
  refusal_reported e is put =
      let form = form_of kind in
      reported (line_of (report_of e) ++ (10 ∷ [])) (subst (λ (x : Result (Network form.Weight) Refusal). PrintsLoaded form.weighing form.shown x (line_of (report_of e) ++ (10 ∷ []))) (sym is) refl) put
