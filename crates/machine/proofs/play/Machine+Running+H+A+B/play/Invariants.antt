use Rattle.std.proofs.Common.{◌≡◌, ◌≤◌, length, vec_items, vec_capacity}
use Rattle.model.specs.Run.{Run}
use Rattle.machine.specs.Played.{entries}
use Rattle.machine.specs.Whole.{model_of}
use Rattle.machine.proofs.play.Machine+Running+H+A+B.play.Given as goal

abbrev pub invariant-loop-call : goal.invariant-loop-call
invariant-loop-call g l =
    (length l.calls ≤ vec_capacity l.replies)
    × (length (vec_items l.replies) ≡ l.call-index)
    × Run (model_of g.H.Controller g.A.Stage g.B.Stage l.initial.self) (entries l.calls (vec_items l.replies)) (model_of g.H.Controller g.A.Stage g.B.Stage l.self)
