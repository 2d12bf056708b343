use Rattle.std.proofs.Common.{vec_items}
use Rattle.model.proofs.Runs.{promises_kept}
use Rattle.machine.specs.Played.{entries}
use Rattle.machine.specs.Whole.{model_of}
use Rattle.machine.proofs.Laid.{routable}
use Rattle.machine.proofs.play.run.Goals as goal

pub returns : goal.returns
returns g c =
    let e = c.play.ensures in
    let m = c.args.machine.now in
    record {
      ran = (e.all, e.ran);
      promises = λ f. promises_kept (model_of g.H.Controller g.A.Stage g.B.Stage c.args.machine.now) (model_of g.H.Controller g.A.Stage g.B.Stage c.play.new.self) (entries c.args.calls.now (vec_items c.play.new.replies)) f (routable (g.H.Controller.view m.hardware) (g.A.Stage.model m.head) (g.B.Stage.model m.root) m.routes.head_handles.bits m.routes.head_passes.bits m.routes.root_handles.bits m.head_fits m.root_fits) e.ran;
    }
