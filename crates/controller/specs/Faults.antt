-- The number of each refusal of a controller.
use Rattle.std.specs.Prelude.{ℕ}
use Rattle.controller.specs.declared.fault.ControllerFault.{ControllerFault}
use Rattle.controller.specs.declared.fault.ControllerFault.TheVariants.{NoSuchLine, MaskOutside, NothingInService}

-- 1: a line that the controller lacks, by a raise or by asking its level; 2: a mask with such a line; 3: an end with nothing in service
abbrev pub fault_number : ControllerFault → ℕ
fault_number NoSuchLine = 1
fault_number MaskOutside = 2
fault_number NothingInService = 3
