use Rattle.std.proofs.Common.{sym, subst, arith}
use Rattle.std.specs.List.{All, Contains}
use Rattle.exhaustive.specs.Choices.{choice, IsChoice}
use Rattle.exhaustive.proofs.Chosen.{choices_every, choices_such}
use Rattle.exhaustive.proofs.choosing.choices.Goals as goal

pub returns-clause-every : goal.returns-clause-every
returns-clause-every c from to metres h k m =
    subst (λ xs. Contains xs (choice from to metres)) (sym c.loop-to.invariant.items)
    (choices_every c.loop-to.to from to metres h (omega arith) m)

pub returns-clause-such : goal.returns-clause-such
returns-clause-such c =
    subst (All (IsChoice c.args.sites)) (sym c.loop-to.invariant.items)
    (choices_such c.args.sites c.loop-to.to (omega arith))
