use Rattle.std.proofs.Common.{◌+◌, drop, sym, refl, ◌∙◌, arith, length-drop}
use Rattle.std.proofs.lemmas.List.{take_all}
use Rattle.trace_lines.proofs.Cutting.{no_whole_line, first_whole_cut}
use Rattle.trace_lines.proofs.cut.next_whole_line.Goals as goal

pub returns-in_err-n : goal.returns-in_err-n
returns-in_err-n c = rw c.from_residual.ensures (no_whole_line c.args.text.now (sym c.line_feed.ensures ∙ c.in_err-n.was))

pub returns : goal.returns
returns c =
    let s = c.args.text.now in
    let n = c.in_ok-n.n in
    first_whole_cut s _ _ n (sym c.line_feed.ensures ∙ c.in_ok-n.was) refl (take_all _ (drop (n + 1) s) (simp length-drop (omega arith)))
