-- The form of a line, found byte by byte.
use Rattle.std.specs.Prelude.{ℕ, ◌-◌, ◌/◌, ◌%◌, Bool, cond, ◌&&◌, List, [], ◌∷◌, length, take, drop, Some, None, Ok, Err, Option, Result, ◌==◌, nat_le, slice_index}
use Rattle.std.specs.Option.{option_map}
use Rattle.lines.specs.declared.line_set.LineSet.{LineSet}
use Rattle.model.specs.declared.calls.Kernel.{Kernel}
use Rattle.model.specs.declared.calls.Kernel.TheVariants.{Head, Root}
use Rattle.trace_lines.specs.declared.commands.TextFault.{TextFault}
use Rattle.trace_lines.specs.declared.commands.TextFault.TheVariants.{Form, Range}
use Rattle.trace_lines.specs.declared.commands.Setup.{Setup}
use Rattle.trace_lines.specs.declared.commands.Setup.TheVariants.{Route, Start}
use Rattle.trace_lines.specs.declared.commands.Command.{Command}
use Rattle.trace_lines.specs.declared.commands.Command.TheVariants.{Raise, MaskHardware, Mask, Pump, Next, Done, Stall, Unstall, SetLevel, RestoreLevel}
use Rattle.trace_lines.specs.Numerals.{numeral}
use Rattle.trace_lines.specs.Grammar.{SetupForm, route, start}

-- what has no form is refused, and then what is out of range
abbrev pub ranged : {X : Type 0} → (X → Bool) → Option X → Result X TextFault
ranged in_range None = Err Form
ranged in_range (Some x) = cond (in_range x) (Ok x) (Err Range)

abbrev pub both : {X Y Z : Type 0} → (X → Y → Z) → Option X → Option Y → Option Z
both f None y = None
both f (Some x) None = None
both f (Some x) (Some y) = Some (f x y)

-- the kernel that a letter names
abbrev pub kernel_named : ℕ → Option Kernel
kernel_named d = cond (d == 104) (Some Head) (cond (d == 114) (Some Root) None)

abbrev pub kernel_of : List ℕ → Option Kernel
kernel_of [] = None
kernel_of (d ∷ []) = kernel_named d
kernel_of (d ∷ c ∷ s) = None

-- a kernel, and what stands after it and a blank
abbrev pub kernel_and_rest : List ℕ → Option (Kernel × List ℕ)
kernel_and_rest s =
    cond (nat_le 2 (length s) && slice_index s 1 == 32) (option_map (λ k. (k, take (length s - 2) (drop 2 s))) (kernel_named (slice_index s 0))) None

-- what stands after a kernel is read as an argument
abbrev pub argued : {X Y : Type 0} → (Kernel → X → Y) → (List ℕ → Option X) → Option (Kernel × List ℕ) → Option Y
argued f read None = None
argued f read (Some p) = option_map (f p.0) (read p.1)

-- a kernel and, after a blank, an argument
abbrev pub kernel_and : {X Y : Type 0} → (Kernel → X → Y) → (List ℕ → Option X) → List ℕ → Option Y
kernel_and f read s = argued f read (kernel_and_rest s)

abbrev pub set_of : List ℕ → Option LineSet
set_of s = option_map (λ n. record { bits = n }) (numeral 16 16 s)

-- the commands after the start, by their letters
abbrev pub letter_form : ℕ → List ℕ → Option Command
letter_form c s =
    cond (c == 105) (option_map Raise (numeral 10 3 s))
    (cond (c == 109) (option_map MaskHardware (set_of s))
    (cond (c == 107) (kernel_and Mask set_of s)
    (cond (c == 112) (option_map Pump (numeral 10 3 s))
    (cond (c == 110) (option_map Next (kernel_of s))
    (cond (c == 100) (option_map Done (kernel_of s))
    (cond (c == 115) (option_map Stall (kernel_of s))
    (cond (c == 117) (option_map Unstall (kernel_of s))
    (cond (c == 118) (kernel_and SetLevel (numeral 10 3) s)
    (cond (c == 120) (option_map RestoreLevel (kernel_of s)) None)))))))))

abbrev pub command_form : List ℕ → Option Command
command_form s = cond (nat_le 2 (length s) && slice_index s 1 == 32) (letter_form (slice_index s 0) (take (length s - 2) (drop 2 s))) None

-- L and, after a blank at the last place but one, F
abbrev pub route_form : List ℕ → Option SetupForm
route_form s =
    cond (nat_le 2 (length s) && slice_index s (length s - 2) == 32)
    (both route (numeral 10 3 (take (length s - 2) s)) (numeral 10 1 (slice_index s (length s - 1) ∷ []))) None

-- the commands before the start: a, a blank and a route; or b alone
abbrev pub setup_form : List ℕ → Option SetupForm
setup_form s =
    cond (nat_le 2 (length s) && (slice_index s 0 == 97 && slice_index s 1 == 32)) (route_form (take (length s - 2) (drop 2 s)))
    (cond (length s == 1 && slice_index s 0 == 98) (Some start) None)

-- what a form before the start says
abbrev pub setup_of : SetupForm → Setup
setup_of (route n f) =
    Route n (record { head_handles = f % 2 == 1; head_passes = f / 2 % 2 == 1; root_handles = f / 4 % 2 == 1 })
setup_of start = Start

abbrev pub said : Result SetupForm TextFault → Result Setup TextFault
said (Ok f) = Ok (setup_of f)
said (Err e) = Err e
