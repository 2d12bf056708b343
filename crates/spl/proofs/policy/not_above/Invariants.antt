use Rattle.spl.proofs.Lows.{Lowering}
use Rattle.spl.proofs.policy.not_above.Given as goal

abbrev pub invariant-loop-line : goal.invariant-loop-line
invariant-loop-line g l =
    Lowering l.initial.line-iterator.rest.bits (λ n. g.P.Kind.Level.above (g.P.Policy.levels l.policy n) l.level) l.line-iterator.rest.bits l.low.bits
