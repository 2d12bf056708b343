use Rattle.std.proofs.Common.{subst}
use Rattle.controller.specs.Calls.{Masks}
use Rattle.spl.specs.Blocked.{written, written_consistent}
use Rattle.spl.proofs.layer.Spl.settle.Goals as goal

pub invariant_of-self : goal.invariant_of-self
invariant_of-self g c =
    let q = c.requires in
    let v = g.C.Controller.view c.args.self.now.below in
    let w = g.C.Controller.view c.mask.new.self in
    let m = subst (λ s. Masks v s c.mask.result w) c.union.ensures c.mask.ensures.leaves in
    record {
      blocking = written_consistent v _ _ _ q.own_in q.low_are w (written v _ _ _ q.own_in q.low_are c.mask.result w m).1;
      settable = q.settable;
    }
