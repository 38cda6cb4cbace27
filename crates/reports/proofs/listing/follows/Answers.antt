use Rattle.std.proofs.Common.{Bool, sym, refl, subst}
use Rattle.reports.specs.Filling.{SaysFollows}
use Rattle.reports.proofs.Followed.{says_follows}
use Rattle.reports.proofs.listing.follows.Goals as goal

pub returns : goal.returns
returns g c =
    let k = g.K.WeightKind.weighing in
    let before = c.args.walk.now in
    let after = c.next.new.self in
    record {
      says = subst (λ (b : Bool). SaysFollows k before after b) (sym c.is_ok.ensures.value)
          (says_follows k before after _ c.next.new.list c.requires.begun refl c.next.result c.next.ensures.acts);
      stays = c.next.ensures.stays;
    }
