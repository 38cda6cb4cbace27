use Rattle.std.proofs.Common.{◌∙◌}
use Rattle.std.proofs.lemmas.List.{at_drop_all}
use Rattle.networks.specs.Opening.{link_rules}
use Rattle.networks.specs.Refusals.{first_of}
use Rattle.networks.proofs.Faults.{sound_links}
use Rattle.networks.proofs.opening.check_links.Goals as goal

pub returns-clause-sound : goal.returns-clause-sound
returns-clause-sound g c =
    sound_links c.args.sites 0 c.args.links.now
    (c.loop-number.invariant ∙ at_drop_all (λ rest. first_of (link_rules c.args.sites c.loop-number.number rest)) c.args.links.now c.loop-number.number c.loop-number-test.false)
