use Rattle.std.proofs.Common.{◌≡◌, ◌≤◌, length, vec_items, vec_capacity}
use Rattle.service.proofs.Raising.{Raising}
use Rattle.service.proofs.raise_each.Given as goal

abbrev pub invariant-loop-line : goal.invariant-loop-line
invariant-loop-line g l =
    (g.C.Controller.ranks l.controller ≡ g.C.Controller.ranks l.initial.controller)
    × (length l.requests ≤ vec_capacity l.answers)
    × Raising (g.C.Controller.view l.initial.controller) (g.C.Controller.view l.controller) l.requests l.line-index (vec_items l.answers)
