use Rattle.std.proofs.Common.{sym, refl, ap, ◌∙◌, subst}
use Rattle.lines.specs.Sets.{Within}
use Rattle.optimistic.proofs.Raising.{raising_none, raising_more, raising_all}
use Rattle.optimistic.proofs.again.raise_lines.Goals as goal

pub loop-line-init : goal.loop-line-init
loop-line-init g c = (refl, raising_none _ _)

pub loop-line-preserved : goal.loop-line-preserved
loop-line-preserved g c =
    let i = c.loop-line.invariant in
    let h = c.raise.ensures in
    let p = c.in-Some.ensures.steps in
    let s = c.into_iter-line-iterator.result.rest.bits in
    let e = ap (λ z. z.rest.bits) c.into_iter-line-iterator.ensures.into_iter_gives ∙ c.lines-line-items.ensures in
    let v₀ = g.C.Controller.view c.args.below.now in
    let w : Within s v₀.lines = subst (λ z. Within z v₀.lines) (sym e) c.requires in
    rw p.1 (
      h.fixed ∙ i.0,
      raising_more v₀ _ s c.loop-line.line-iterator.rest.bits c.in-Some.line i.1 p.0.one w c.raise.result _ h.leaves,
    )

pub returns : goal.returns
returns g c =
    let i = c.loop-line.invariant in
    let e = ap (λ z. z.rest.bits) c.into_iter-line-iterator.ensures.into_iter_gives ∙ c.lines-line-items.ensures in
    record {
      fixed = i.0;
      leaves = rw (sym e) (raising_all _ _ _ _ c.in-None.ensures.steps.0 i.1);
    }
