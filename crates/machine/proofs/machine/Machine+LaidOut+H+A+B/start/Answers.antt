use Rattle.std.proofs.Common.{sym, subst}
use Rattle.model.specs.Run.{Fresh, Routable}
use Rattle.machine.proofs.Laid.{routable}
use Rattle.machine.proofs.machine.Machine+LaidOut+H+A+B.start.Goals as goal

pub returns-clause-routable : goal.returns-clause-routable
returns-clause-routable g c =
    let s = c.args.self in
    let q = s.routes in
    subst Routable (sym c.in_phase.ensures) (routable (g.H.Controller.view s.hardware) (g.A.Stage.model s.head) (g.B.Stage.model s.root) q.head_handles.bits q.head_passes.bits q.root_handles.bits s.head_fits s.root_fits)

pub returns-clause-fresh : goal.returns-clause-fresh
returns-clause-fresh g c = λ h. subst Fresh (sym c.in_phase.ensures) h
