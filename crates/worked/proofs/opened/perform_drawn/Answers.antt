use Rattle.worked.proofs.opened.perform_drawn.Goals as goal

pub returns : goal.returns
returns g c = λ sites links calls held drawn brings same. brings c.args.network drawn _ _ _ c.perform.ensures.promise.promised same
