use Rattle.std.proofs.Common.{Ok, sym, subst}
use Rattle.model.specs.Machine.{Step}
use Rattle.machine.specs.Whole.{model_of}
use Rattle.machine.proofs.play.Machine+Running+H+A+B.call.Goals as goal

pub returns-in-Next : goal.returns-in-Next
returns-in-Next g c =
    subst (λ x. Step (model_of g.H.Controller g.A.Stage g.B.Stage c.args.self.now) x (Ok c.call_next.result) (model_of g.H.Controller g.A.Stage g.B.Stage c.call_next.new.self)) (sym c.in-Next.is) c.call_next.ensures
