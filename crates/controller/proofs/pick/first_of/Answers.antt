use Rattle.std.proofs.Common.{◌≡◌, true, ap, ◌∙◌, subst}
use Rattle.lines.specs.Sets.{has}
use Rattle.controller.specs.View.{ahead_by}
use Rattle.controller.specs.Picks.{Picks}
use Rattle.controller.proofs.Order.{weak_of, order_by}
use Rattle.controller.proofs.Picked.{picks_none, picks_more, picks_all, rest_in}
use Rattle.controller.proofs.pick.first_of.Goals as goal

pub loop-line-init : goal.loop-line-init
loop-line-init g c = (λ n h. h, picks_none (ahead_by g.R.Ranking.order) _)

pub loop-line-preserved : goal.loop-line-preserved
loop-line-preserved g c =
    let m = g.met.R.Level.Level in
    let o = order_by _ (weak_of g.R.Level.Level.above m.asymmetric m.connected m.transitive g.R.Ranking.ranks g.R.Ranking.order g.met.R.Ranking.ordered) in
    let i = c.loop-line.invariant in
    let s = c.into_iter-line-iterator.result.rest.bits in
    let r = c.loop-line.line-iterator.rest.bits in
    let p = c.in-Some.ensures.steps in
    rw (p.1, c.better.ensures) (
      rest_in _ _ o s r c.in-Some.line i.0 p.0.one,
      picks_more _ _ o s r c.in-Some.line i.0 p.0.one c.loop-line.best i.1,
    )

pub returns : goal.returns
returns g c =
    let goes = ahead_by g.R.Ranking.order in
    let e = ap (λ z. z.rest.bits) c.into_iter-line-iterator.ensures.into_iter_gives ∙ c.lines-line-items.ensures in
    subst (λ s. Picks goes (λ n. has s n ≡ true) c.loop-line.best) e
    (picks_all goes _ _ c.in-None.ensures.steps.0 c.loop-line.best c.loop-line.invariant.1)
