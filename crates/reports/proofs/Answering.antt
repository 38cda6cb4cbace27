-- From what loading gave to what is answered.
use Rattle.std.proofs.Common.{◌≡◌, ℕ, List, length, Ok, Err, Result, sym, ap, subst}
use Rattle.std.specs.Result.{IsOkAnd}
use Rattle.networks.specs.declared.links.Link.{Link}
use Rattle.networks.specs.declared.networks.Network.{Network}
use Rattle.networks.specs.declared.refusals.Refusal.{Refusal}
use Rattle.networks.specs.declared.refusals.Report.{Report}
use Rattle.reports.specs.declared.answers.Contents.{Contents}
use Rattle.reports.specs.Answers.{AnswersKind, AnswersAs, counted, told_of}
use Rattle.reports.specs.Judging.{NetworkOf, RefusedWith, Loads}
use Rattle.reports.specs.Kinds.{form_of}
use Rattle.reports.specs.declared.answers.Kind.{Kind}
use Rattle.reports.proofs.Judging.{judged}

module _ {K : Type 0} where
  sound : (r : Result (Network K) Refusal) (sites : ℕ) (links : List (Link K)) → IsOkAnd r (NetworkOf sites links) → told_of r ≡ Ok (counted sites (length links))
  sound (Ok n) sites links h = let a = h.has_sites in let b = ap length h.has_links in cc
  sound (Err e) sites links h = absurd h

  -- a refusal is told as it is
  refused : (r : Result (Network K) Refusal) (report : Report) → RefusedWith r report → RefusedWith (told_of r) report
  refused (Ok n) report e = e
  refused (Err e) report same = same

-- the answer to a sheet, loaded as this kind
pub answers_as : (kind : Kind) (sheet : List ℕ) (r : Result (Network (form_of kind).Weight) Refusal) (a : Result Contents Refusal)
    → Loads (form_of kind).letter (form_of kind).width (form_of kind).bytes sheet r → a ≡ told_of r → AnswersAs kind sheet a
answers_as kind sheet r a loads is =
    let form = form_of kind in
    subst (λ (b : Result Contents Refusal). AnswersKind form.letter form.width form.bytes sheet b) (sym is)
    (judged form.letter form.width form.bytes sheet _ _ _ _ (sound r) (refused r) loads)
