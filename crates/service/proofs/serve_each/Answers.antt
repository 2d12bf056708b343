use Rattle.std.proofs.Common.{vec_items, sym, refl, ◌∙◌, subst, arith}
use Rattle.controller.proofs.Served.{taken_ended}
use Rattle.service.specs.Bursts.{Serves}
use Rattle.service.proofs.Serving.{Progress, progress_none, progress_more, progress_less, progress_all, room}
use Rattle.service.proofs.serve_each.Goals as goal

pub loop-line-init : goal.loop-line-init
loop-line-init g c =
    let v = g.C.Controller.view c.args.controller.now in
    (refl, c.requires.room, subst (Progress v v) (sym c.requires.none_served_yet) (progress_none v))

pub note-requires : goal.note-requires
note-requires g c =
    let i = c.loop-line.invariant in
    let o = g.met.C.Controller.sound c.args.controller.now in
    let f = c.in-Some.ensures.leaves.0 in
    omega (arith, room _ _ (vec_items c.loop-line.served) i.2 o c.in-Some.line f, i.1, c.loop-line.served.ok.0)

pub loop-line-smaller : goal.loop-line-smaller
loop-line-smaller g c =
    let i = c.loop-line.invariant in
    let v = g.C.Controller.view c.loop-line.controller in
    let o₀ = g.met.C.Controller.sound c.args.controller.now in
    let o = g.met.C.Controller.sound c.loop-line.controller in
    let h = c.in-Some.ensures.leaves in
    let e = (taken_ended v o c.in-Some.line h.0.one c.end.result _ (g.C.Controller.view c.end.new.self) h.1 c.end.ensures.leaves).1 in
    progress_less _ v (vec_items c.loop-line.served) i.2 o₀ c.in-Some.line h.0 _ e

pub loop-line-preserved : goal.loop-line-preserved
loop-line-preserved g c =
    let i = c.loop-line.invariant in
    let v = g.C.Controller.view c.loop-line.controller in
    let o₀ = g.met.C.Controller.sound c.args.controller.now in
    let o = g.met.C.Controller.sound c.loop-line.controller in
    let h = c.in-Some.ensures in
    let e = (taken_ended v o c.in-Some.line h.leaves.0.one c.end.result _ (g.C.Controller.view c.end.new.self) h.leaves.1 c.end.ensures.leaves).1 in (
      c.end.ensures.fixed ∙ h.fixed ∙ i.0,
      rw c.note.ensures.capacity i.1,
      rw c.note.ensures.items (progress_more _ v (vec_items c.loop-line.served) i.2 o₀ c.in-Some.line h.leaves.0 _ e),
    )

pub returns : goal.returns
returns g c =
    let i = c.loop-line.invariant in
    let v₀ = g.C.Controller.view c.args.controller.now in
    let v = g.C.Controller.view c.loop-line.controller in
    let ns = vec_items c.loop-line.served in
    let h = c.in_default.ensures in
    record { fixed = h.fixed ∙ i.0; leaves = subst (Serves v₀ ns) (sym h.leaves.1) (progress_all v₀ v ns i.2 h.leaves.0) }
