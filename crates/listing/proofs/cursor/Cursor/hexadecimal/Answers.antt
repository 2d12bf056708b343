use Rattle.std.proofs.Common.{arith}
use Rattle.listing.proofs.Puts.{length-set}
use Rattle.listing.proofs.cursor.Cursor.hexadecimal.Goals as goal

pub number-requires-clause-room : goal.number-requires-clause-room
number-requires-clause-room c = omega (arith, length-set c.args.n c.ranges.n.fits)

pub returns-clause-within : goal.returns-clause-within
returns-clause-within c = omega (arith, length-set c.args.n c.ranges.n.fits, c.number.ensures.at)
