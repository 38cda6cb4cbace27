use Rattle.std.proofs.Common.{arith}
use Rattle.std.proofs.lemmas.Bool.{eqb-true, eq-eqb}
use Rattle.cheapest.proofs.Joining.{tree_size, size_tree, joined_size, size_joined}
use Rattle.cheapest.proofs.showing.is_tree.Goals as goal

pub returns : goal.returns
returns c =
    let plan = c.args.plan.now in
    let whole = c.requires.1 in
    record {
      joined = (
        (λ e. size_joined plan (omega (arith, whole, eqb-true _ _ e))),
        (λ h. eq-eqb _ _ (omega (arith, whole, joined_size plan h))),
      );
      tree = (
        (λ e. size_tree plan (omega (arith, whole, eqb-true _ _ e))),
        (λ t. eq-eqb _ _ (omega (arith, whole, tree_size plan t))),
      );
    }
