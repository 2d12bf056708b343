use Rattle.std.proofs.Common.{arith, rules}
use Rattle.listing.proofs.Puts.{puts_then, puts_front}
use Rattle.listing.proofs.write.write_line.Goals as goal

pub returns : goal.returns
returns g c =
    let p = puts_then c.put_words.ensures.puts c.byte.ensures in (
      c.as_listed-line.result,
      c.as_listed-line.ensures,
      (
        omega arith,
        omega (arith, p.at, c.over-cursor.ensures.start),
        omega (arith, c.put_words.ensures.within, c.byte.ensures.at, c.over-cursor.ensures.start),
        puts_front p c.over-cursor.ensures.start c.over-cursor.ensures.bytes c.written.ensures (search rules),
      ),
    )
