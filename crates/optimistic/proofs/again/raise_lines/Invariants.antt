use Rattle.std.proofs.Common.{◌≡◌}
use Rattle.optimistic.proofs.Raising.{Raising}
use Rattle.optimistic.proofs.again.raise_lines.Given as goal

-- what is left of the set has still to be raised
abbrev pub invariant-loop-line : goal.invariant-loop-line
invariant-loop-line g l =
    (g.C.Controller.ranks l.below ≡ g.C.Controller.ranks l.initial.below)
    × Raising (g.C.Controller.view l.initial.below) (g.C.Controller.view l.below) l.initial.line-iterator.rest.bits l.line-iterator.rest.bits
