use Rattle.routes.specs.Sets.{routes_of}
use Rattle.machine.proofs.Changed.{head_nexts}
use Rattle.machine.proofs.machine.Machine.next_for_head.Goals as goal

pub returns : goal.returns
returns g c =
    let s = c.args.self.now in
    head_nexts (g.H.Controller.view s.hardware) (g.A.Stage.model s.head) (g.A.Stage.model c.take.new.self) (g.B.Stage.model s.root) (routes_of s.routes) c.take.result c.take.ensures
