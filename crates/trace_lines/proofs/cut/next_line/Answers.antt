use Rattle.std.proofs.Common.{sym, refl}
use Rattle.trace_lines.proofs.FirstLines.{whole_or_only}
use Rattle.trace_lines.proofs.cut.next_line.Goals as goal

pub returns : goal.returns
returns c =
    rw c.or.ensures (whole_or_only c.args.text.now (λ cut. cut.0.now) (λ cut. cut.1.now) c.next_whole_line.result _ (sym c.if-is_empty.ensures) c.next_whole_line.ensures refl refl)
