use Rattle.std.proofs.Common.{◌≡◌}
use Rattle.machine.specs.Whole.{model_of}
use Rattle.machine.proofs.Pumping.{SoFar}
use Rattle.machine.proofs.machine.Machine.pump_within.Given as goal

-- as many lines have arrived as were asked for so far
abbrev pub invariant-loop : goal.invariant-loop
invariant-loop g l =
    (l.arrived.count ≡ l.counter)
    × SoFar (model_of g.H.Controller g.A.Stage g.B.Stage l.initial.self) (model_of g.H.Controller g.A.Stage g.B.Stage l.self) l.n l.arrived.count l.arrived.set.bits
