use Rattle.std.proofs.Common.{sym, refl, ap, ◌∙◌}
use Rattle.controller.specs.View.{taken}
use Rattle.controller.proofs.Keeps.{with_in}
use Rattle.optimistic.proofs.Aside.{aside_none, aside_more, aside_less, with_deliverable, take_none, logs_none, take_some, logs_some}
use Rattle.optimistic.proofs.layer.OptimisticController.take.Goals as goal

pub loop-line-init : goal.loop-line-init
loop-line-init g c = (refl, refl, aside_none _ _ _ c.args.self.now.logging)

pub returns-then-not-is_soft : goal.returns-then-not-is_soft
returns-then-not-is_soft g c =
    let i = c.loop-line.invariant in
    let h = c.in-Some.ensures in
    let v = g.C.Controller.view c.loop-line.self.below in
    let log = c.loop-line.self.log.bits in
    let n = c.in-Some.line in
    let o = g.met.C.Controller.sound c.loop-line.self.below in
    let s = rw i.1 at (sym c.if-not-is_soft.ensures) in
    rw i.1 (record {
      fixed = h.fixed ∙ i.0;
      leaves = take_some _ _ _ c.args.self.now.logging v log i.2 o n h.leaves.0 s _ h.leaves.1;
      soft = refl;
      logs = logs_some _ _ _ c.args.self.now.logging v log i.2 o n h.leaves.0 s;
      under = h.leaves.1 ∙ ap (λ z. taken z n) i.2.view;
    })

pub write_log-requires : goal.write_log-requires
write_log-requires g c =
    let l = c.loop-line.self in
    let k = c.with.ensures ∙ with_deliverable _ (g.met.C.Controller.sound l.below) _ c.in-Some.ensures.leaves.0.one l.log.bits in
    rw k (with_in _ _ _ l.logging.inside (sym c.if-not-is_soft.ensures))

pub loop-line-smaller : goal.loop-line-smaller
loop-line-smaller g c =
    let i = c.loop-line.invariant in
    let h = c.in-Some.ensures in
    let v = g.C.Controller.view c.loop-line.self.below in
    let n = c.in-Some.line in
    let o = g.met.C.Controller.sound c.loop-line.self.below in
    let s = rw i.1 at (sym c.if-not-is_soft.ensures) in
    let k = c.with.ensures ∙ with_deliverable v o n h.leaves.0.one c.loop-line.self.log.bits in
    aside_less _ _ _ c.args.self.now.logging v c.loop-line.self.log.bits i.2 o n h.leaves.0 s c.end.result c.write_log.result _ _ _ h.leaves.1 c.end.ensures.leaves (rw k at c.write_log.ensures.under)

pub loop-line-preserved : goal.loop-line-preserved
loop-line-preserved g c =
    let i = c.loop-line.invariant in
    let h = c.in-Some.ensures in
    let v = g.C.Controller.view c.loop-line.self.below in
    let n = c.in-Some.line in
    let o = g.met.C.Controller.sound c.loop-line.self.below in
    let s = rw i.1 at (sym c.if-not-is_soft.ensures) in
    let k = c.with.ensures ∙ with_deliverable v o n h.leaves.0.one c.loop-line.self.log.bits in
    rw (c.write_log.ensures.log, k) (
      c.write_log.ensures.fixed ∙ c.end.ensures.fixed ∙ h.fixed ∙ i.0,
      c.write_log.ensures.soft ∙ i.1,
      aside_more _ _ _ c.args.self.now.logging v c.loop-line.self.log.bits i.2 o n h.leaves.0 s c.end.result c.write_log.result _ _ _ h.leaves.1 c.end.ensures.leaves (rw k at c.write_log.ensures.under),
    )

pub returns : goal.returns
returns g c =
    let i = c.loop-line.invariant in
    let h = c.in_default.ensures in
    let v = g.C.Controller.view c.loop-line.self.below in
    let log = c.loop-line.self.log.bits in
    rw i.1 (record {
      fixed = h.fixed ∙ i.0;
      leaves = take_none _ _ _ c.args.self.now.logging v log i.2 h.leaves.0 _ h.leaves.1;
      soft = refl;
      logs = logs_none _ _ _ c.args.self.now.logging v log i.2 h.leaves.0;
      under = h.leaves.1 ∙ i.2.view;
    })
