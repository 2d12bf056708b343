-- The lines of a trace: which lines are commands, and what each says.
use Rattle.std.specs.Prelude.{◌≡◌, ℕ, ◌+◌, ◌<◌, ◌≤◌, Bool, true, false, cond, ◌&&◌, ◌⊎◌, List, ◌++◌, length, Some, Ok, Err, codes, Result, nat_le}
use Rattle.lines.specs.declared.line_set.LineSet.{LineSet}
use Rattle.model.specs.declared.calls.Kernel.{Kernel}
use Rattle.model.specs.declared.calls.Kernel.TheVariants.{Head, Root}
use Rattle.trace_lines.specs.declared.commands.TextFault.{TextFault}
use Rattle.trace_lines.specs.declared.commands.TextFault.TheVariants.{Form, Range}
use Rattle.trace_lines.specs.declared.commands.Setup.{Setup}
use Rattle.trace_lines.specs.declared.commands.Setup.TheVariants.{Route, Start}
use Rattle.trace_lines.specs.declared.commands.Command.{Command}
use Rattle.trace_lines.specs.declared.commands.Command.TheVariants.{Raise, MaskHardware, Mask, Pump, Next, Done, Stall, Unstall, SetLevel, RestoreLevel}
use Rattle.trace_lines.specs.Numerals.{numeral}

-- ---- the arguments

-- L, N, C: one to three digits
abbrev pub Number : List ℕ → ℕ → Type 0
Number s n = numeral 10 3 s ≡ Some n

-- F: one digit
abbrev pub Digit : List ℕ → ℕ → Type 0
Digit s n = numeral 10 1 s ≡ Some n

-- S: one to sixteen hexadecimal digits in lower case, as a set of lines
abbrev pub Set : List ℕ → LineSet → Type 0
Set s l = numeral 16 16 s ≡ Some l.bits

-- D
abbrev pub kernel_name : Kernel → List ℕ
kernel_name Head = codes "h"
kernel_name Root = codes "r"

-- ---- the forms of a line: a letter and its arguments, each after one blank

-- before the start, whatever the range of the numbers: a L F and b
pub data SetupForm : Type 0 where
  route : ℕ → ℕ → SetupForm
  start : SetupForm

abbrev pub SetupLine : List ℕ → SetupForm → Type 0
SetupLine s (route n f) = (l t : List ℕ) × Number l n × Digit t f × (s ≡ codes "a " ++ (l ++ (codes " " ++ t)))
SetupLine s start = s ≡ codes "b"

-- after the start, whatever the range of the numbers
abbrev pub CommandLine : List ℕ → Command → Type 0
CommandLine s (Raise n) = (l : List ℕ) × Number l n × (s ≡ codes "i " ++ l)
CommandLine s (MaskHardware lines) = (l : List ℕ) × Set l lines × (s ≡ codes "m " ++ l)
CommandLine s (Mask k lines) = (l : List ℕ) × Set l lines × (s ≡ codes "k " ++ (kernel_name k ++ (codes " " ++ l)))
CommandLine s (Pump n) = (l : List ℕ) × Number l n × (s ≡ codes "p " ++ l)
CommandLine s (Next k) = s ≡ codes "n " ++ kernel_name k
CommandLine s (Done k) = s ≡ codes "d " ++ kernel_name k
CommandLine s (Stall k) = s ≡ codes "s " ++ kernel_name k
CommandLine s (Unstall k) = s ≡ codes "u " ++ kernel_name k
CommandLine s (SetLevel k n) = (l : List ℕ) × Number l n × (s ≡ codes "v " ++ (kernel_name k ++ (codes " " ++ l)))
CommandLine s (RestoreLevel k) = s ≡ codes "x " ++ kernel_name k

-- ---- the ranges

-- L at most 255, F at most 7
abbrev pub setup_in_range : SetupForm → Bool
setup_in_range (route n f) = nat_le n 255 && nat_le f 7
setup_in_range start = true

-- L, N and C at most 255
abbrev pub command_in_range : Command → Bool
command_in_range (Raise n) = nat_le n 255
command_in_range (MaskHardware lines) = true
command_in_range (Mask k lines) = true
command_in_range (Pump n) = nat_le n 255
command_in_range (Next k) = true
command_in_range (Done k) = true
command_in_range (Stall k) = true
command_in_range (Unstall k) = true
command_in_range (SetLevel k n) = nat_le n 255
command_in_range (RestoreLevel k) = true

-- ---- what a form says

-- F adds 1 if the head handles the line, 2 if the head passes it on, 4 if the root handles it
abbrev pub SetupSays : SetupForm → Setup → Type 0
SetupSays (route n f) (Route line r) = (line ≡ n) × (f ≡ cond r.head_handles 1 0 + cond r.head_passes 2 0 + cond r.root_handles 4 0)
SetupSays (route n f) Start = ⊥
SetupSays start (Route line r) = ⊥
SetupSays start Start = Unit {0}

abbrev pub CommandSays : Command → Command → Type 0
CommandSays f c = c ≡ f

-- ---- reading a line

-- A line of at most 80 bytes that has a form says its command if its numbers are in range; out of range they are refused, and so is,
-- before that, any line of another form.
abbrev pub Reads : {F C : Type 0} → (List ℕ → F → Type 0) → (F → Bool) → (F → C → Type 0) → List ℕ → Result C TextFault → Type 0
Reads Line in_range Says s (Ok c) = (length s ≤ 80) × ((f : _) × Line s f × (in_range f ≡ true) × Says f c)
Reads Line in_range Says s (Err Range) = (length s ≤ 80) × ((f : _) × Line s f × (in_range f ≡ false))
Reads Line in_range Says s (Err Form) = (80 < length s) ⊎ ((f : _) → Line s f → ⊥)

abbrev pub ReadsSetup : List ℕ → Result Setup TextFault → Type 0
ReadsSetup = Reads SetupLine setup_in_range SetupSays

abbrev pub ReadsCommand : List ℕ → Result Command TextFault → Type 0
ReadsCommand = Reads CommandLine command_in_range CommandSays

-- a line is read in one way
abbrev pub Unambiguous : {C : Type 0} → (List ℕ → Result C TextFault → Type 0) → Type 0
Unambiguous R = (s : List ℕ) (r r' : Result _ TextFault) → R s r → R s r' → r ≡ r'
