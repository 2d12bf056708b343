use Rattle.std.proofs.Common.{sym, subst}
use Rattle.trace_lines.specs.Grammar.{ReadsCommand}
use Rattle.trace_lines.proofs.Written.{reads_command}
use Rattle.trace_lines.proofs.read.read_command.Goals as goal

pub returns : goal.returns
returns c = subst (ReadsCommand c.args.line.now) (sym c.command_line.ensures) (reads_command c.args.line.now c.in_ok-check_length.ensures)
