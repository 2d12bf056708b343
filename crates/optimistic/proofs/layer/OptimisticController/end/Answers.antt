use Rattle.std.proofs.Common.{refl}
use Rattle.optimistic.specs.Logged.{end_told, end_consistent}
use Rattle.optimistic.proofs.layer.OptimisticController.end.Goals as goal

pub invariant_of-self : goal.invariant_of-self
invariant_of-self g c = record { logging = end_consistent _ _ _ c.args.self.now.logging c.end.result _ c.end.ensures.leaves }

pub returns : goal.returns
returns g c =
    let v = g.C.Controller.view c.args.self.now.below in
    let h = c.end.ensures in
    record {
      fixed = h.fixed;
      leaves = end_told v _ _ c.end.result _ h.leaves;
      soft = refl;
      log = refl;
      under = h.leaves;
    }
