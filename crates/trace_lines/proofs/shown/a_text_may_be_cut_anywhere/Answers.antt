use Rattle.trace_lines.proofs.Cutting.{lines_are, cut_anywhere}
use Rattle.trace_lines.proofs.shown.a_text_may_be_cut_anywhere.Goals as goal

pub returns : goal.returns
returns c = record { lines = lines_are; cut = cut_anywhere }
