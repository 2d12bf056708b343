use Rattle.std.proofs.Common.{ℕ, Bool, sym}
use Rattle.spl.proofs.Lows.{lowering_out, lowering_in}
use Rattle.spl.proofs.policy.not_above.Goals as goal

pub loop-line-preserved : goal.loop-line-preserved
loop-line-preserved g c =
    let above : ℕ → Bool = λ n. g.P.Kind.Level.above (g.P.Policy.levels c.args.policy.now n) c.args.level in
    let s = c.into_iter-line-iterator.result.rest.bits in
    let rest = c.loop-line.line-iterator.rest.bits in
    let p = c.in-Some.ensures.steps in
    rw p.1 (lowering_in s above rest c.loop-line.low.bits c.in-Some.line c.loop-line.invariant p.0.one (sym c.if-is_over.ensures))

pub loop-line-preserved-then-is_over : goal.loop-line-preserved-then-is_over
loop-line-preserved-then-is_over g c =
    let above : ℕ → Bool = λ n. g.P.Kind.Level.above (g.P.Policy.levels c.args.policy.now n) c.args.level in
    let s = c.into_iter-line-iterator.result.rest.bits in
    let rest = c.loop-line.line-iterator.rest.bits in
    let p = c.in-Some.ensures.steps in
    rw (p.1, c.without-low.ensures) (lowering_out s above rest c.loop-line.low.bits c.in-Some.line c.loop-line.invariant p.0.one (sym c.if-is_over.ensures))
