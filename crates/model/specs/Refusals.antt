-- The number of each refusal of the machine.
use Rattle.std.specs.Prelude.{ℕ}
use Rattle.controller.specs.Faults.{fault_number}
use Rattle.spl.specs.Faults.{level_fault_number}
use Rattle.model.specs.declared.fault.Fault.{Fault}
use Rattle.model.specs.declared.fault.Fault.TheVariants.{Controller, Level, NotAtStage, OverLimit}

-- the controller's and the stage's own; 5: a route lets a kernel handle a line that its stage lacks; 9: a pump of more than its limit
abbrev pub number_of : Fault → ℕ
number_of (Controller e) = fault_number e
number_of (Level e) = level_fault_number e
number_of NotAtStage = 5
number_of OverLimit = 9
