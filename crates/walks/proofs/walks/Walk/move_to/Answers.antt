use Rattle.walks.proofs.FromPlans.{listed_by}
use Rattle.walks.proofs.walks.Walk.move_to.Goals as goal

pub returns-clause-acts : goal.returns-clause-acts
returns-clause-acts g c = λ begun L full. c.seek_row.ensures.does L (listed_by c.args.self.now g.K.WeightKind.weighing g.met.K.WeightKind.lawful begun L full)
