use Rattle.std.proofs.Common.{Some, sym, refl, subst}
use Rattle.controller.specs.Calls.{Takes}
use Rattle.controller.proofs.Keeps.{takes_sound}
use Rattle.bank.specs.Contents.{bank_view}
use Rattle.bank.proofs.Picking.{takes_none, takes_some}
use Rattle.bank.proofs.bank.BankController.take.Goals as goal

pub invariant_of-self : goal.invariant_of-self
invariant_of-self g c =
    let o = c.args.self.now.sound in
    record { sound = takes_sound _ o (Some _) _ (takes_some _ _ _ _ o _ c.in_ok-line.ensures c.acknowledge.ensures) }

pub returns : goal.returns
returns g c = record { fixed = refl; leaves = takes_some _ _ _ _ c.args.self.now.sound _ c.in_ok-line.ensures c.acknowledge.ensures }

pub returns-in_err-line : goal.returns-in_err-line
returns-in_err-line g c =
    let w = g.R.Registers.wired in
    let o = g.R.Ranking.order in
    let was = g.R.Registers.contents c.args.self.now.registers in
    record {
      fixed = refl;
      leaves = subst (λ r. Takes (bank_view w o was) r (bank_view w o was)) (sym c.from_residual.ensures) (takes_none w o was was c.in_err-line.ensures);
    }
