use Rattle.std.proofs.Common.{Bool, false, List, get_or, replicate, ap, ◌∙◌, ⊎_elim}
use Rattle.std.proofs.lemmas.Bool.{cases_lt}
use Rattle.std.proofs.lemmas.List.{get_or-replicate, get_or_past}
use Rattle.networks.proofs.networks.Network.open.Goals as goal

pub returns-clause-opens : goal.returns-clause-opens
returns-clause-opens g c e =
    ap (λ (states : List Bool). get_or states e false) c.none.ensures.states
    ∙ ⊎_elim
    (λ l. get_or-replicate 512 e false false l)
    (λ l. get_or_past (replicate 512 false) e false l)
    (cases_lt e 512)
