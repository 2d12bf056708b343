use Rattle.std.proofs.Common.{◌≡◌}
use Rattle.optimistic.proofs.Aside.{Aside}
use Rattle.optimistic.proofs.layer.OptimisticController.take.Given as goal

-- the levels below are those there were; the soft mask stands; the lines met so far are set aside
abbrev pub invariant-loop-line : goal.invariant-loop-line
invariant-loop-line g l =
    (g.C.Controller.ranks l.self.below ≡ g.C.Controller.ranks l.initial.self.below)
    × (l.self.soft ≡ l.initial.self.soft)
    × Aside (g.C.Controller.view l.initial.self.below) l.initial.self.soft.bits l.initial.self.log.bits (g.C.Controller.view l.self.below) l.self.log.bits

-- fewer lines are pending below
abbrev pub decreases-loop-line : goal.decreases-loop-line
decreases-loop-line g l = (g.C.Controller.view l.self.below).pending
