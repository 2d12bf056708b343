-- The number of each refusal of a line of text.
use Rattle.std.specs.Prelude.{ℕ}
use Rattle.trace_lines.specs.declared.commands.TextFault.{TextFault}
use Rattle.trace_lines.specs.declared.commands.TextFault.TheVariants.{Form, Range}

-- 8: a line that is too long or of another form; 9: a number out of range
abbrev pub text_fault_number : TextFault → ℕ
text_fault_number Form = 8
text_fault_number Range = 9
