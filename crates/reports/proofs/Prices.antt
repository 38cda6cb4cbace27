-- A row whose entries are all numbers of links has a price.
use Rattle.std.proofs.Common.{◌≡◌, ℕ, List, length, Ok, Err, Option, Result, sym, ◌∙◌, subst, IfOk, MatchOption}
use Rattle.std.specs.Result.{result_ok}
use Rattle.std.proofs.lemmas.Option.{none-some}
use Rattle.networks.specs.Pricing.{price_rules}
use Rattle.networks.specs.Refusals.{first_of, refusal_of, report_of}
use Rattle.networks.specs.declared.links.Link.{Link}
use Rattle.networks.specs.declared.refusals.Refusal.{Refusal}
use Rattle.networks.proofs.FirstFaults.{pricing_laws}
use Rattle.reports.specs.Totals.{AllPriced}

pub priced_total : {K T : Type 0} (links : List (Link K)) (row : List ℕ) (r : Result T Refusal) (P : T → Type 0) → refusal_of r ≡ first_of (price_rules (length links) 0 row) → IfOk r P → AllPriced links row → (o : Option T) → o ≡ result_ok r → MatchOption o ⊥ P
priced_total links row (Ok t) P refuses sums priced o is = subst (λ (o : Option _). MatchOption o ⊥ P) (sym is) sums
priced_total links row (Err e) P refuses sums priced o is =
    absurd (none-some (report_of e) (sym (refuses ∙ pricing_laws.accepts (length links) row priced)))
