use Rattle.std.proofs.Common.{◌+◌, ◌-◌, length, drop, sym, ap, ◌∙◌, arith}
use Rattle.std.proofs.lemmas.List.{drop-drop, length-take}
use Rattle.std.proofs.lemmas.Slice.{drop-put_mid}
use Rattle.receivers.proofs.Fronts.{reach_drop}
use Rattle.receivers.proofs.places.Places.append.Goals as goal

pub returns-clause-spare : goal.returns-clause-spare
returns-clause-spare g c =
    let p = c.args.self.now in
    let cells = p.cells.now in
    let part = c.args.part.now in
    let put = c.copy_from_slice.new.self in
    let start = c.used-start.result in
    let room = length-take p.used cells in
    drop-put_mid start (start + length part - start) cells put (start + length part) (omega arith) (omega (arith, c.used-start.ensures)) (omega (arith, ap length c.copy_from_slice.ensures.after))
    ∙ sym (drop-drop (length part) start cells)
    ∙ ap (drop (length part)) (ap (λ k. drop k cells) c.used-start.ensures ∙ reach_drop cells p.used)
