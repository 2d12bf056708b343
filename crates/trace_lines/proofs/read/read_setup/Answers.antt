use Rattle.std.proofs.Common.{sym, subst}
use Rattle.trace_lines.specs.Grammar.{ReadsSetup}
use Rattle.trace_lines.proofs.Setups.{reads_setup}
use Rattle.trace_lines.proofs.read.read_setup.Goals as goal

pub returns : goal.returns
returns c = subst (ReadsSetup c.args.line.now) (sym c.setup_line.ensures) (reads_setup c.args.line.now c.in_ok-check_length.ensures)
