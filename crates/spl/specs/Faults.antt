-- The number of the refusal of a level.
use Rattle.std.specs.Prelude.{ℕ}
use Rattle.spl.specs.declared.fault.LevelFault.{LevelFault}
use Rattle.spl.specs.declared.fault.LevelFault.TheVariants.{NoSuchLevel}

-- 4: a level or a code that the policy does not name
abbrev pub level_fault_number : LevelFault → ℕ
level_fault_number NoSuchLevel = 4
