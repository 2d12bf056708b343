use Rattle.std.proofs.Common.{◌≡◌, sym, ap, subst}
use Rattle.controller.specs.View.{Sound, fresh}
use Rattle.controller.proofs.Order.{weak_of}
use Rattle.controller.proofs.Keeps.{fresh_sound}
use Rattle.bank.specs.Contents.{bank_view}
use Rattle.bank.proofs.bank.Bank.new.Goals as goal

pub invariant_of-result : goal.invariant_of-result
invariant_of-result g c =
    let m = g.met.R.Level.Level in
    let w = weak_of g.R.Level.Level.above m.asymmetric m.connected m.transitive g.R.Ranking.ranks g.R.Ranking.order g.met.R.Ranking.ordered in
    let e : bank_view g.R.Registers.wired g.R.Ranking.order (g.R.Registers.contents c.cleared.result) ≡ fresh g.R.Registers.wired g.R.Ranking.order =
    ap (bank_view g.R.Registers.wired g.R.Ranking.order) c.cleared.ensures in
    record { sound = subst Sound (sym e) (fresh_sound _ _ w g.met.R.Registers.small g.met.R.Registers.some) }
