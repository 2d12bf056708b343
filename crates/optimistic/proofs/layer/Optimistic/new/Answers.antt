use Rattle.std.proofs.Common.{refl}
use Rattle.optimistic.specs.Logged.{made_view, made_consistent, made_told}
use Rattle.optimistic.proofs.layer.Optimistic.new.Goals as goal

pub invariant_of-result : goal.invariant_of-result
invariant_of-result g c =
    let v = g.C.Controller.view c.args.below in
    rw c.masked-soft.ensures (record { logging = made_consistent v (g.met.C.Controller.sound c.args.below) c.mask.result _ c.mask.ensures.leaves })

pub returns : goal.returns
returns g c =
    let v = g.C.Controller.view c.args.below in
    let o = g.met.C.Controller.sound c.args.below in
    let h = c.mask.ensures in
    rw c.masked-soft.ensures (record {
      fixed = h.fixed;
      told = made_told v o c.mask.result _ h.leaves;
      soft = refl;
      log = refl;
      under = made_view v o c.mask.result _ h.leaves;
    })
