use Rattle.std.proofs.Common.{◌≡◌, ℕ, length, subst}
use Rattle.networks.specs.Classes.{HasClass, Counted, letter_of}
use Rattle.networks.specs.Networks.{network_graph, links_of, weights_of}
use Rattle.networks.specs.declared.classes.Class.{Class}
use Rattle.networks.specs.declared.classes.Class.TheVariants.{Never, Always, Sometimes}
use Rattle.networks.proofs.Asked.{count_asked, one_letter}
use Rattle.networks.proofs.networks.Network.count_of.Given as given
use Rattle.networks.proofs.networks.Network.count_of.Goals as goal

-- what was counted are the links of the class whose letter this is
counted : (g : given.Over) (c : goal.After-count_in g) (class : Class) → letter_of c.args.class ≡ letter_of class
    → Counted (λ e. HasClass (network_graph c.args.self.now) g.K.WeightKind.weighing.scale (weights_of g.K.WeightKind.weighing c.args.self.now) e class) (length (links_of c.args.self.now)) c.count_in.result
counted g c class e =
    let k = g.K.WeightKind in
    let n = c.args.self.now in
    let w : ℕ → k.weighing.scale.Amount = weights_of k.weighing n in
    subst (λ (d : Class). Counted (λ e'. HasClass (network_graph n) k.weighing.scale w e' d) (length (links_of n)) c.count_in.result) (one_letter c.args.class class e)
    (count_asked c.plan.result (network_graph n) c.plan.ensures.graph k.weighing.scale g.met.K.WeightKind.lawful w c.plan.ensures.alike c.args.class c.count_in.result c.count_in.ensures)

pub returns : goal.returns
returns g c = record { always = counted g c Always; sometimes = counted g c Sometimes; never = counted g c Never }
