use Rattle.std.proofs.Common.{false, true, length, sym, refl, subst}
use Rattle.std.proofs.lemmas.Bool.{ltb-false}
use Rattle.machine.specs.Whole.{model_of}
use Rattle.listing.proofs.Written.{writes_trace}
use Rattle.trace.specs.Lines.{traced_by, Steps}
use Rattle.trace.specs.Sessions.{has_started, session_model}
use Rattle.trace.specs.Stages.{head_stage, root_stage}
use Rattle.trace.proofs.Rooms.{steps}
use Rattle.trace.proofs.stepping.step.Goals as goal

pub returns-else-is_short : goal.returns-else-is_short
returns-else-is_short g c =
    let h = g.H.Controller in
    let a = head_stage g.C.Controller in
    let b = root_stage g.D.Controller in
    let x = c.args.saved.now in
    let p = c.before_start-session.result in
    let w = c.write_line-written in
    record {
      lent = (refl, refl);
      steps =
          subst (λ s. Steps (has_started s) (traced_by (session_model h a b s) x) c.args.line.now c.args.out.now w.result (has_started p.session) (traced_by (session_model h a b p.session) x) w.new.out) (sym c.in-LaidOut.is)
          (steps false (has_started p.session) (traced_by (model_of h a b c.in-LaidOut.machine) x) (traced_by (session_model h a b p.session) x) c.args.line.now c.args.out.now w.new.out p.result w.result
          (ltb-false (length c.args.out.now) 20 (sym c.if-is_short.ensures)) (c.before_start-session.ensures, refl, refl) (writes_trace p.result c.args.out.now w.new.out w.result w.ensures));
    }

pub returns-in-Running : goal.returns-in-Running
returns-in-Running g c =
    let h = g.H.Controller in
    let a = head_stage g.C.Controller in
    let b = root_stage g.D.Controller in
    let w = c.step_running-written in
    record {
      lent = w.ensures.lent;
      steps =
          subst (λ s. Steps (has_started s) (traced_by (session_model h a b s) c.args.saved.now) c.args.line.now c.args.out.now w.result true (traced_by (model_of h a b w.new.machine) w.new.saved) w.new.out) (sym c.in-Running.is) w.ensures.steps;
    }
