use Rattle.std.proofs.Common.{◌≡◌, sym, ◌∙◌, subst, ap₂}
use Rattle.lines.specs.Sets.{common, Within}
use Rattle.routes.specs.Sets.{routes}
use Rattle.machine.specs.Whole.{machine}
use Rattle.machine.proofs.Laid.{fresh_machine, common_right, none_within}
use Rattle.machine.proofs.machine.Machine+LaidOut+H+A+B.lay_out.Goals as goal

pub invariant_of-result : goal.invariant_of-result
invariant_of-result g c =
    let v = g.H.Controller.view c.args.hardware in
    let b = g.B.Stage.model c.args.root in
    let e : c.common.result.bits ≡ common v.lines b.own.lines = c.common.ensures ∙ ap₂ common c.lines-lines.ensures c.ask.ensures in
    record { head_fits = none_within _; root_fits = subst (λ z. Within z b.own.lines) (sym e) (common_right v.lines b.own.lines) }

pub returns : goal.returns
returns g c =
    let v = g.H.Controller.view c.args.hardware in
    let a = g.A.Stage.model c.args.head in
    let b = g.B.Stage.model c.args.root in
    let e : c.common.result.bits ≡ common v.lines b.own.lines = c.common.ensures ∙ ap₂ common c.lines-lines.ensures c.ask.ensures in
    record {
      model = ap₂ (λ x y. machine v a b (routes 0 x y)) c.lines-lines.ensures e;
      fresh = fresh_machine v a b (routes 0 c.lines-lines.result.bits c.common.result.bits);
    }
