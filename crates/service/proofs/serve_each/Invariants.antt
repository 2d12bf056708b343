use Rattle.std.proofs.Common.{◌≡◌, ◌≤◌, vec_items, vec_capacity}
use Rattle.service.proofs.Serving.{Progress}
use Rattle.service.proofs.serve_each.Given as goal

abbrev pub invariant-loop-line : goal.invariant-loop-line
invariant-loop-line g l =
    (g.C.Controller.ranks l.controller ≡ g.C.Controller.ranks l.initial.controller)
    × (64 ≤ vec_capacity l.served)
    × Progress (g.C.Controller.view l.initial.controller) (g.C.Controller.view l.controller) (vec_items l.served)

-- fewer lines pend
abbrev pub decreases-loop-line : goal.decreases-loop-line
decreases-loop-line g l = (g.C.Controller.view l.controller).pending
