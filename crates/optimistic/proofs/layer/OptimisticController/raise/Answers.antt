use Rattle.std.proofs.Common.{sym, refl, inl}
use Rattle.optimistic.specs.Logged.{raise_logged, raise_below, raise_consistent}
use Rattle.optimistic.proofs.layer.OptimisticController.raise.Goals as goal

pub returns-then-is_logged : goal.returns-then-is_logged
returns-then-is_logged g c =
    let l = sym c.if-is_logged.ensures in
    record {
      fixed = refl;
      leaves = raise_logged (g.C.Controller.view c.args.self.now.below) _ _ c.args.self.now.logging c.args.line l;
      soft = refl;
      log = refl;
      under = rw l (refl, inl refl);
    }

pub invariant_of-self : goal.invariant_of-self
invariant_of-self g c = record { logging = raise_consistent _ _ _ c.args.self.now.logging c.args.line c.raise.result _ c.raise.ensures.leaves }

pub returns : goal.returns
returns g c =
    let v = g.C.Controller.view c.args.self.now.below in
    let h = c.raise.ensures in
    let l = sym c.if-is_logged.ensures in
    record {
      fixed = h.fixed;
      leaves = raise_below v _ _ c.args.self.now.logging c.args.line c.raise.result _ l h.leaves;
      soft = refl;
      log = refl;
      under = rw l h.leaves;
    }
