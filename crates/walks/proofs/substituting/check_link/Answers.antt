use Rattle.std.proofs.Common.{◌≡◌, true, Decides, inl, inr, sym, refl, ◌∙◌}
use Rattle.std.proofs.lemmas.Bool.{false≢true}
use Rattle.forests.specs.Lists.{In}
use Rattle.cheapest.specs.Positions.{is_on, row_of}
use Rattle.walks.proofs.Moves.{place_on}
use Rattle.walks.proofs.Members.{decides_in}
use Rattle.walks.proofs.substituting.check_link.Goals as goal

pub returns-then-not-contains-clause-refuses : goal.returns-then-not-contains-clause-refuses
returns-then-not-contains-clause-refuses c =
    let rows = c.args.rows.now in
    let on : is_on rows ≡ true = sym c.is_on.ensures ∙ c.if-not-is_on.false in
    let d : Decides c.contains.result (In c.args.link (row_of rows)) = rw (c.contains.ensures.value, c.row.ensures) (decides_in c.args.link (row_of rows)) in
    rw (place_on rows on) (inl ((λ i. false≢true (sym c.if-not-contains.true ∙ d.1 i)), refl))

pub returns : goal.returns
returns c =
    let rows = c.args.rows.now in
    let on : is_on rows ≡ true = sym c.is_on.ensures ∙ c.if-not-is_on.false in
    let d : Decides c.contains.result (In c.args.link (row_of rows)) = rw (c.contains.ensures.value, c.row.ensures) (decides_in c.args.link (row_of rows)) in
    let inside = d.0 c.if-not-contains.false in
    record {
      refuses = rw (place_on rows on) (inr ((λ out. out inside), refl));
      on = on;
      inside = rw (place_on rows on) inside;
    }
