use Rattle.std.proofs.Common.{sym, refl, subst}
use Rattle.std.proofs.lemmas.Bool.{false≢true}
use Rattle.forests.specs.Graphs.{SitesJoined}
use Rattle.weights.specs.Amounts.{numbers}
use Rattle.cheapest.specs.Plans.{graph_of, mark_of}
use Rattle.cheapest.specs.Positions.{row_of}
use Rattle.cheapest.specs.declared.plan.Plan.{Plan}
use Rattle.networks.proofs.FirstRows.{first_found, first_joins}
use Rattle.networks.proofs.trials.write_first.Goals as goal

pub returns-then-not-advance-clause-joined : goal.returns-then-not-advance-clause-joined
returns-then-not-advance-clause-joined c = (
  (λ e. absurd (false≢true e)),
  (λ j. absurd ((c.if-not-advance.ensures.ends refl).not_joined c.new-rows.ensures.before
      (subst (λ (p : Plan). SitesJoined (graph_of p)) (sym c.new-rows.ensures.plan) j))),
)

pub returns-clause-joined : goal.returns-clause-joined
returns-clause-joined c =
    let p = c.args.plan in
    let f = first_found p c.new-rows.result c.advance.new.self c.new-rows.ensures.plan c.new-rows.ensures.before (c.if-not-advance.ensures.moves refl) in
    ((λ _. first_joins (graph_of p) numbers (mark_of p) (row_of c.advance.new.self) f), (λ _. refl))

pub returns-clause-writes : goal.returns-clause-writes
returns-clause-writes c = record {
  writes = λ _. (
    row_of c.advance.new.self,
    first_found c.args.plan c.new-rows.result c.advance.new.self c.new-rows.ensures.plan c.new-rows.ensures.before (c.if-not-advance.ensures.moves refl),
    rw (c.copy_from_slice.ensures.after, c.row-row.ensures),
  );
  leaves = λ none. absurd (none refl);
}
