use Rattle.lines.specs.Sets.{Within}
use Rattle.controller.specs.View.{ahead_by}
use Rattle.controller.specs.Picks.{Picks}
use Rattle.controller.proofs.Picked.{Seen}
use Rattle.controller.proofs.pick.first_of.Given as goal

-- the best is the first of the lines seen so far
abbrev pub invariant-loop-line : goal.invariant-loop-line
invariant-loop-line g l =
    Within l.line-iterator.rest.bits l.initial.line-iterator.rest.bits
    × Picks (ahead_by g.R.Ranking.order) (Seen l.initial.line-iterator.rest.bits l.line-iterator.rest.bits) l.best
