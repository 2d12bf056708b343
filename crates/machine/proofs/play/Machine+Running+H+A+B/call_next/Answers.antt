use Rattle.std.proofs.Common.{Ok, sym, ap, subst, subst₂}
use Rattle.model.specs.declared.calls.Call.TheVariants.{Next as next_call}
use Rattle.model.specs.declared.calls.Answer.TheVariants.{Delivered as delivered}
use Rattle.model.specs.Machine.{Step}
use Rattle.machine.specs.Whole.{model_of}
use Rattle.machine.proofs.play.Machine+Running+H+A+B.call_next.Goals as goal

pub returns-in-Head : goal.returns-in-Head
returns-in-Head g c =
    subst (λ k. Step (model_of g.H.Controller g.A.Stage g.B.Stage c.args.self.now) (next_call k) (Ok (delivered c.next_for_head.result)) (model_of g.H.Controller g.A.Stage g.B.Stage c.next_for_head.new.self)) (sym c.in-Head.is) c.next_for_head.ensures

pub returns-in-Ok : goal.returns-in-Ok
returns-in-Ok g c =
    subst (λ k. Step (model_of g.H.Controller g.A.Stage g.B.Stage c.args.self.now) (next_call k) (Ok (delivered c.in-Ok.line)) (model_of g.H.Controller g.A.Stage g.B.Stage c.next_for_root.new.self)) (sym c.in-Root.is) c.in-Ok.ensures

pub returns-in-Err : goal.returns-in-Err
returns-in-Err g c =
    subst₂ (λ k y. Step (model_of g.H.Controller g.A.Stage g.B.Stage c.args.self.now) (next_call k) y (model_of g.H.Controller g.A.Stage g.B.Stage c.next_for_root.new.self)) (sym c.in-Root.is) (ap Ok (sym c.from.ensures)) c.in-Err.ensures
