use Rattle.std.proofs.Common.{arith}
use Rattle.listing.proofs.Puts.{room_for, puts_then}
use Rattle.listing.proofs.write.put_arrived.Goals as goal

pub returns-clause-within : goal.returns-clause-within
returns-clause-within c = omega (arith, room_for c.args.count c.ranges.count.fits, c.decimal.ensures.puts.at, c.byte.ensures.at)

pub returns-clause-puts : goal.returns-clause-puts
returns-clause-puts c = puts_then c.decimal.ensures.puts (puts_then c.byte.ensures c.hexadecimal.ensures.puts)
