use Rattle.std.proofs.Common.{◌<◌, [], ◌∷◌, length, sym, ap, ◌∙◌, arith}
use native.Mathlib.Nat.{div-lt_self}
use Rattle.std.proofs.lemmas.Bool.{ltb-true, ltb-false}
use Rattle.listing.proofs.Puts.{written_one, written_more, length_more, puts_same, puts_then}
use Rattle.listing.proofs.cursor.Cursor.+number.Goals as goal

pub byte-requires : goal.byte-requires
byte-requires t c = omega (arith, ap length (written_one c.args.base c.args.n c.requires.low (ltb-true c.args.n c.args.base (sym c.if-is_digit.ensures))), c.requires.room)

pub returns-then-is_digit : goal.returns-then-is_digit
returns-then-is_digit t c =
    puts_same c.byte.ensures (ap (λ d. d ∷ []) c.digit_letter.ensures ∙ sym (written_one c.args.base c.args.n c.requires.low (ltb-true c.args.n c.args.base (sym c.if-is_digit.ensures))))

pub number-requires : goal.number-requires
number-requires t c =
    let many = ltb-false c.args.n c.args.base (sym c.if-is_digit.ensures) in
    let some : 0 < c.args.n = omega (arith, many, c.requires.low) in
    let less = div-lt_self {n = c.args.n} {k = c.args.base} some c.requires.low in
    (omega (arith, less, c.decreases), (c.requires.low, (c.requires.high, omega (arith, length_more c.args.base c.args.n c.requires.low many, c.requires.room))))

pub byte-requires-else-is_digit : goal.byte-requires-else-is_digit
byte-requires-else-is_digit t c =
    omega (arith, length_more c.args.base c.args.n c.requires.low (ltb-false c.args.n c.args.base (sym c.if-is_digit.ensures)), c.number.ensures.at, c.number.ensures.size, c.requires.room)

pub returns-else-is_digit : goal.returns-else-is_digit
returns-else-is_digit t c =
    puts_same (puts_then c.number.ensures (puts_same c.byte-else-is_digit.ensures (ap (λ d. d ∷ []) c.digit_letter-else-is_digit.ensures)))
    (sym (written_more c.args.base c.args.n c.requires.low (ltb-false c.args.n c.args.base (sym c.if-is_digit.ensures))))
