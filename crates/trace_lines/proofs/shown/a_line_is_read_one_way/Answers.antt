use Rattle.trace_lines.proofs.OneWay.{setup_one, command_one}
use Rattle.trace_lines.proofs.shown.a_line_is_read_one_way.Goals as goal

pub returns : goal.returns
returns c = record { before_the_start = setup_one; after_it = command_one }
