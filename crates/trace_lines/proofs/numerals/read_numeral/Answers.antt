use Rattle.std.proofs.Common.{sym, ◌∙◌, arith}
use Rattle.trace_lines.proofs.Reading.{grows_digit, fits, reads_on}
use Rattle.trace_lines.proofs.numerals.read_numeral.Goals as goal

pub overflow_mul-n : goal.overflow_mul-n
overflow_mul-n c =
    omega (arith, grows_digit _ _ _ _ c.args.s.now c.loop-b.invariant.small c.requires.base (sym c.digit.ensures ∙ c.in_ok-d.was), fits c.loop-b.b-index (omega arith))

pub overflow_add-n : goal.overflow_add-n
overflow_add-n c =
    omega (arith, grows_digit _ _ _ _ c.args.s.now c.loop-b.invariant.small c.requires.base (sym c.digit.ensures ∙ c.in_ok-d.was), fits c.loop-b.b-index (omega arith))

pub loop-b-preserved : goal.loop-b-preserved
loop-b-preserved c =
    let e = sym c.digit.ensures ∙ c.in_ok-d.was in
    record {
      small = grows_digit _ _ _ _ c.args.s.now c.loop-b.invariant.small c.requires.base e;
      goes_on = sym (reads_on _ _ _ _ _ c.loop-b-test.true e) ∙ c.loop-b.invariant.goes_on;
    }
