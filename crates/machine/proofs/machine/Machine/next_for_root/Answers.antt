use Rattle.routes.specs.Sets.{routes_of}
use Rattle.machine.proofs.Changed.{root_nexts}
use Rattle.machine.proofs.machine.Machine.next_for_root.Goals as goal

pub returns : goal.returns
returns g c =
    let s = c.args.self.now in
    let i = c.in_ok-before_root.ensures in
    root_nexts (g.H.Controller.view s.hardware) (g.A.Stage.model s.head) (g.B.Stage.model s.root) (routes_of s.routes) (g.B.Stage.model c.take.new.self) c.take.result i.0 i.1 c.take.ensures
