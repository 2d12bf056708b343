use Rattle.stage.proofs.Arriving.{passing}
use Rattle.stage.proofs.arrive.pass.Goals as goal

pub returns : goal.returns
returns g c =
    let v = g.C.Controller.view c.args.controller.now in
    passing v (g.C.Controller.view c.take.new.self) (g.C.Controller.view c.end.new.self) c.in_ok-line.line c.end.result
    (g.met.C.Controller.sound c.args.controller.now) c.in_ok-line.ensures.leaves c.end.ensures.leaves
