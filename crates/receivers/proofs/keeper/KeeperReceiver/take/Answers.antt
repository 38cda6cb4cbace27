use Rattle.std.proofs.Common.{[], ◌∷◌, length, sym, ap, ◌∙◌, subst}
use Rattle.receivers.specs.Rules.{EndOf}
use Rattle.receivers.specs.Keeping.{keeping}
use Rattle.receivers.specs.Places.{spare_in}
use Rattle.receivers.proofs.Fronts.{end_drop, end_end}
use Rattle.receivers.proofs.keeper.KeeperReceiver.take.Goals as goal

pub returns-clause-serves : goal.returns-clause-serves
returns-clause-serves c =
    let one = c.append.ensures in
    let two = c.append-2.ensures in
    let k = c.args.self.now in
    let k' = c.append.new.self in
    let first = subst (EndOf (spare_in k)) (sym one.spare) (end_drop 1 (spare_in k)) in
    let second = subst (EndOf (spare_in k')) (sym two.spare) (end_drop (length c.args.row.now) (spare_in k')) in
    record { rule = ap keeping (two.room ∙ one.room); spare = end_end (spare_in k) (spare_in k') (spare_in c.append-2.new.self) first second; lender = ap (λ name. name ∷ []) (two.lender ∙ one.lender) }
