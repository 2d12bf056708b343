use Rattle.std.proofs.Common.{◌≡◌, length, sym, refl, ◌∙◌, subst, arith}
use Rattle.service.proofs.Raising.{Raising, raising_none, raising_more, raising_all}
use Rattle.service.proofs.raise_each.Goals as goal

pub loop-line-init : goal.loop-line-init
loop-line-init g c =
    (refl, c.requires.room, subst (Raising (g.C.Controller.view c.args.controller.now) (g.C.Controller.view c.args.controller.now) c.args.requests.now 0) (sym c.requires.no_answer_yet) (raising_none _ _))

pub loop-line-preserved : goal.loop-line-preserved
loop-line-preserved g c =
    let i = c.loop-line.invariant in
    let v₀ = g.C.Controller.view c.args.controller.now in
    let v = g.C.Controller.view c.loop-line.controller in
    let w = g.C.Controller.view c.raise.new.self in (
      c.raise.ensures.fixed ∙ i.0,
      rw c.push_reserved.ensures.capacity i.1,
      rw c.push_reserved.ensures.items (raising_more v₀ v c.args.requests.now c.loop-line.line-index _ i.2 (omega arith) c.raise.result w c.raise.ensures.leaves),
    )

pub returns : goal.returns
returns g c =
    let i = c.loop-line.invariant in
    let e : c.loop-line.line-index ≡ length c.args.requests.now = omega arith in
    let a = raising_all _ _ c.args.requests.now c.loop-line.line-index _ e i.2 in
    record { fixed = i.0; leaves = a.0; told = a.1 }
