use Rattle.std.proofs.Common.{◌≡◌, ℕ, List, [], ◌++◌, length, sym, refl, ◌∙◌, subst, rules}
use Rattle.std.proofs.lemmas.List.{take-append-drop}
use Rattle.receivers.specs.Writing.{writing}
use Rattle.receivers.specs.Places.{held_in, spare_in}
use Rattle.walks.specs.Acts.{PourActs}
use Rattle.reports.proofs.Poured.{poured_fills, poured_within, poured_some, front_held}
use Rattle.reports.proofs.listing.put_rows.Goals as goal

pub returns : goal.returns
returns g c =
    let k = g.K.WeightKind.weighing in
    let laws = g.met.K.WeightKind.lawful in
    let new = c.new-writer.ensures in
    let poured = c.pour-poured.ensures in
    let w = c.pour-poured.new.receiver in
    let before = c.args.walk.now in
    let after = c.pour-poured.new.self in
    let limit = c.args.limit in
    let count = c.pour-poured.result.0 in
    let letter = c.pour-poured.result.1 in
    let same : w.cells.ghost_name ≡ c.new-writer.result.cells.ghost_name = cc poured.serves.lender in
    let is : w.cells.now ≡ held_in w ++ spare_in w = sym (take-append-drop w.used w.cells.now) in
    let named = sym (same ∙ new.lender) in
    let acts : PourActs k before after (writing 4096) [] limit count letter (held_in w) =
    subst (λ (n : ℕ). PourActs k before after (writing n) [] limit count letter (held_in w)) new.places
    (subst (λ (held : List ℕ). PourActs k before after (writing (length c.new-writer.result.cells.now)) held limit count letter (held_in w)) new.holds poured.acts) in
    record {
      puts = (
        held_in w,
        poured_fills k laws before after 4096 limit count letter (held_in w) (held_in w) acts c.requires.begun refl,
        subst (λ (t : List ℕ). g.S.Sink.took c.args.out.now t c.put.new.self) (front_held _ (held_in w) (spare_in w) c.used-used.result (let back : _ ≡ w.cells.now = search rules in back ∙ is) c.used-used.ensures) c.put.ensures,
      );
      stays = poured.stays;
      within = poured_within k laws before after 4096 limit count letter (held_in w) (held_in w) acts c.requires.begun refl;
      some = poured_some k laws before after 4096 limit count letter (held_in w) (held_in w) acts c.requires.begun refl (search rules);
    }
