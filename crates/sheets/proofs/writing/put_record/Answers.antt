use Rattle.std.proofs.Common.{◌≡◌, ◌-◌, ◌∷◌, length, take, drop, set, ap, ◌∙◌, arith}
use Rattle.std.proofs.lemmas.List.{length-set, length-take, length-drop}
use Rattle.sheets.proofs.Places.{record_put}
use Rattle.sheets.proofs.writing.put_record.Goals as goal

pub returns : goal.returns
returns g c =
    let places = c.args.places.now in
    let from = c.args.link.from in
    let to = c.args.link.to in
    let both = set (set places 0 from) 1 to in
    let same : length both ≡ length places = length-set (set places 0 from) 1 to ∙ length-set places 0 from in
    let pre = c.requires in
    let many : length (take (length both - 2) (drop 2 both)) ≡ g.K.SheetKind.width =
    omega (arith, length-take (length both - 2) (drop 2 both), length-drop 2 both) in
    record_put places from to (length both - 2) c.encode.new.places (omega arith) (omega arith)
    ∙ ap (λ xs. from ∷ to ∷ xs) (c.encode.ensures.writes many)
