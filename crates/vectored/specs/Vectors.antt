-- The classes and vectors of the lines.
use Rattle.std.specs.Prelude.{◌≡◌, ℕ, ◌+◌, ◌/◌, ◌<◌, ◌≤◌, Bool, Ok, Err, Result, nat_lt}
use Rattle.levels.specs.declared.Class.{Class}
use Rattle.controller.specs.declared.fault.ControllerFault.{ControllerFault}
use Rattle.controller.specs.declared.fault.ControllerFault.TheVariants.{NoSuchLine}

-- sixteen lines to a class, of which the first is 2
abbrev pub class_number : ℕ → ℕ
class_number n = 2 + n / 16

abbrev pub class_of : ℕ → Class
class_of n = record { 0 = class_number n }

-- a larger class is higher
abbrev pub class_order : ℕ → ℕ → Bool
class_order a b = nat_lt (class_number b) (class_number a)

-- asking the vector of line n: it is 32 + n; a number from 64 on is no line and is refused
abbrev pub Vectors : ℕ → Result ℕ ControllerFault → Type 0
Vectors n (Ok v) = (n < 64) × (v ≡ 32 + n)
Vectors n (Err e) = (64 ≤ n) × (e ≡ NoSuchLine)
