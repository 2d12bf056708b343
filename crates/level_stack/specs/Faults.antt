-- The number of each refusal of a stack.
use Rattle.std.specs.Prelude.{ℕ}
use Rattle.level_stack.specs.declared.fault.StackFault.{StackFault}
use Rattle.level_stack.specs.declared.fault.StackFault.TheVariants.{Full, Empty}

-- 6: a push on a full stack; 7: a pop on an empty one
abbrev pub stack_fault_number : StackFault → ℕ
stack_fault_number Full = 6
stack_fault_number Empty = 7
