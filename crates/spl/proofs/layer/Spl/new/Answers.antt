use Rattle.spl.specs.Blocked.{made_consistent}
use Rattle.spl.proofs.layer.Spl.new.Goals as goal

pub invariant_of-result : goal.invariant_of-result
invariant_of-result g c =
    let v = g.C.Controller.view c.args.below in
    let p = c.args.policy in
    rw (c.lowest-level.ensures, c.masked-own.ensures) (record {
      blocking = made_consistent v _ (g.met.C.Controller.sound c.args.below) (λ n. g.met.P.Policy.higher p n);
      settable = g.met.P.Policy.settable p;
    })
