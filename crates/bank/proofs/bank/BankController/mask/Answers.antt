use Rattle.std.proofs.Common.{Ok, refl}
use Rattle.controller.proofs.Keeps.{masks_sound}
use Rattle.bank.proofs.Picking.{masks}
use Rattle.bank.proofs.bank.BankController.mask.Goals as goal

pub invariant_of-self : goal.invariant_of-self
invariant_of-self g c =
    record { sound = masks_sound _ c.args.self.now.sound c.args.set.bits (Ok tt) _ (masks _ _ (g.R.Registers.contents c.args.self.now.registers) (g.R.Registers.contents c.write_mask.new.self) _ (c.if-not-has_all.ensures.0 refl) c.write_mask.ensures) }

pub returns : goal.returns
returns g c = record { fixed = refl; leaves = masks _ _ (g.R.Registers.contents c.args.self.now.registers) (g.R.Registers.contents c.write_mask.new.self) _ (c.if-not-has_all.ensures.0 refl) c.write_mask.ensures }
