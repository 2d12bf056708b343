use Rattle.std.proofs.Common.{sym, subst}
use Rattle.lines.specs.Sets.{Within}
use Rattle.machine.proofs.Laid.{flag_within}
use Rattle.machine.proofs.machine.Machine+LaidOut+H+A+B.route.Goals as goal

pub invariant_of-self : goal.invariant_of-self
invariant_of-self g c =
    let s = c.args.self.now in
    let q = s.routes in
    let x = c.args.route in
    let n = c.args.line in
    let a = (g.A.Stage.model s.head).own.lines in
    let b = (g.B.Stage.model s.root).own.lines in
    let e = c.with-self.ensures in
    record {
      head_fits = subst (λ z. Within z a) (sym e.head) (flag_within q.head_handles.bits n a x.head_handles s.head_fits c.in_ok-check_route.ensures);
      root_fits = subst (λ z. Within z b) (sym e.root) (flag_within q.root_handles.bits n b x.root_handles s.root_fits c.in_ok-check_route-2.ensures);
    }
