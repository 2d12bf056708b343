use Rattle.std.proofs.Common.{◌≡◌, ◌^◌, ◌<◌, drop}
use Rattle.trace_lines.specs.Numerals.{number_after}
use Rattle.trace_lines.proofs.numerals.read_numeral.Given as goal

abbrev pub invariant-loop-b : goal.invariant-loop-b
invariant-loop-b l =
    record {
      small : l.n < 16 ^ l.b-index;
      goes_on : number_after l.base l.n (drop l.b-index l.s) ≡ number_after l.base 0 l.s;
    }
