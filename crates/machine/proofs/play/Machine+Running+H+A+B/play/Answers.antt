use Rattle.std.proofs.Common.{length, vec_items, ap, arith, rules}
use Rattle.model.specs.declared.calls.Call.TheVariants.{Raise}
use Rattle.machine.specs.Whole.{model_of}
use Rattle.machine.proofs.Playing.{run_none, run_push}
use Rattle.machine.proofs.play.Machine+Running+H+A+B.play.Goals as goal

pub loop-call-init : goal.loop-call-init
loop-call-init g c =
    (c.requires.room, ap length c.requires.no_reply_yet, run_none (model_of g.H.Controller g.A.Stage g.B.Stage c.args.self.now) c.args.calls.now (vec_items c.args.replies.now) c.requires.no_reply_yet)

pub loop-call-preserved : goal.loop-call-preserved
loop-call-preserved g c =
    let i = c.loop-call.invariant in (
      rw c.push_reserved.ensures.capacity i.0,
      search rules,
      rw c.push_reserved.ensures.items
          (run_push (model_of g.H.Controller g.A.Stage g.B.Stage c.args.self.now) (model_of g.H.Controller g.A.Stage g.B.Stage c.loop-call.self) (model_of g.H.Controller g.A.Stage g.B.Stage c.call.new.self) c.args.calls.now (vec_items c.loop-call.replies) c.call.result (Raise 0) c.loop-call.call-index
          i.1 (omega arith) i.2 c.call.ensures),
    )
