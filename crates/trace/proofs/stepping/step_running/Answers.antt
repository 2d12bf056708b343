use Rattle.std.proofs.Common.{true, length, sym, refl}
use Rattle.std.proofs.lemmas.Bool.{ltb-false}
use Rattle.machine.specs.Whole.{model_of}
use Rattle.listing.proofs.Written.{writes_trace}
use Rattle.trace.specs.Lines.{traced_by}
use Rattle.trace.specs.Stages.{head_stage, root_stage}
use Rattle.trace.proofs.Rooms.{steps}
use Rattle.trace.proofs.stepping.step_running.Goals as goal

pub returns : goal.returns
returns g c =
    let h = g.H.Controller in
    let a = head_stage g.C.Controller in
    let b = root_stage g.D.Controller in
    let s = traced_by (model_of h a b c.args.machine.now) c.args.saved.now in
    let s' = traced_by (model_of h a b c.after_start-result.new.machine) c.after_start-result.new.saved in
    let r = c.after_start-result.result in
    record {
      lent = c.after_start-result.ensures.lent;
      steps =
          steps true true s s' c.args.line.now c.args.out.now c.write_line.new.out r c.write_line.result (ltb-false (length c.args.out.now) 20 (sym c.if-is_short.ensures))
          (refl, c.after_start-result.ensures.plays) (writes_trace r c.args.out.now c.write_line.new.out c.write_line.result c.write_line.ensures);
    }
