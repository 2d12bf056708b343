use Rattle.std.proofs.Common.{Ok, refl}
use Rattle.controller.proofs.Keeps.{ends_sound}
use Rattle.bank.proofs.Picking.{ends_some, ends_none}
use Rattle.bank.proofs.bank.BankController.end.Goals as goal

pub invariant_of-self : goal.invariant_of-self
invariant_of-self g c =
    let was = g.R.Registers.contents c.args.self.now.registers in
    let is = g.R.Registers.contents c.retire.new.self in
    record { sound = ends_sound _ c.args.self.now.sound (Ok _) _ (ends_some _ _ was is _ c.in-Some.ensures c.retire.ensures) }

pub returns : goal.returns
returns g c =
    let was = g.R.Registers.contents c.args.self.now.registers in
    let is = g.R.Registers.contents c.retire.new.self in
    record { fixed = refl; leaves = ends_some _ _ was is _ c.in-Some.ensures c.retire.ensures }

pub returns-in_default-clause-leaves : goal.returns-in_default-clause-leaves
returns-in_default-clause-leaves g c =
    let was = g.R.Registers.contents c.args.self.now.registers in
    ends_none g.R.Registers.wired g.R.Ranking.order was was c.in_default.ensures
