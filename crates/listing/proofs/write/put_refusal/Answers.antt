use Rattle.listing.proofs.Puts.{puts_then}
use Rattle.listing.proofs.write.put_refusal.Goals as goal

pub returns-clause-puts : goal.returns-clause-puts
returns-clause-puts c = puts_then c.text.ensures (puts_then c.decimal.ensures.puts (puts_then c.byte.ensures c.byte-2.ensures))
