use Rattle.std.proofs.Common.{rules, ◌≡◌, ◌++◌, take, drop, Some, Ok, Option, sym, ap, ◌∙◌, subst, MatchOption}
use Rattle.std.proofs.lemmas.List.{take-append-drop, length-take-le}
use Rattle.std.proofs.lemmas.Result.{IfOk-at_ok}
use Rattle.networks.specs.Refusals.{refusal_of}
use Rattle.networks.specs.declared.refusals.Report.{Report}
use Rattle.sheets.specs.Loading.{Opened}
use Rattle.sheets.proofs.loading.load.Goals as goal

pub returns : goal.returns
returns g c =
    let k = g.K.SheetKind in
    let was : c.read.result ≡ Ok c.in_ok-counts.counts = search rules in
    let reads = IfOk-at_ok _ was c.read.ensures.reads in
    let fills = IfOk-at_ok _ was c.read.ensures.fills in
    let leaves = IfOk-at_ok _ was c.read.ensures.leaves in
    let refuses = ap refusal_of was in
    let n = c.in_ok-counts.counts.links in
    let sheet = c.args.sheet.now in
    let after = c.read.new.links in
    let before = c.args.links.now in
    let r = c.open_first.result in
    let opened : Opened k.letter k.width k.bytes sheet before after r = record {
      sites = c.in_ok-counts.counts.sites;
      links = take n after;
      reads = reads;
      fills = sym (take-append-drop n after) ∙ ap (λ back. take n after ++ back) (leaves ∙ ap (λ m. drop m before) (sym (length-take-le n after fills)));
      refuses = c.open_first.ensures.refuses;
      opens = c.open_first.ensures.opens;
    } in
    subst
    (λ (o : Option Report). MatchOption o (Opened k.letter k.width k.bytes sheet before after r) (λ report. (refusal_of r ≡ Some report) × (after ≡ before)))
    (sym refuses ∙ c.read.ensures.refuses)
    opened
