use Rattle.spl.specs.Blocked.{take_told}
use Rattle.spl.proofs.layer.SplController.take.Goals as goal

pub returns-clause-leaves : goal.returns-clause-leaves
returns-clause-leaves g c = take_told _ _ _ _ c.args.self.now.blocking c.take.result _ c.take.ensures.leaves
