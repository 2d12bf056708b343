use Rattle.std.proofs.Common.{◌≡◌, cond, Ok, sym, refl, ap, ◌∙◌, subst}
use Rattle.lines.specs.Sets.{has}
use Rattle.controller.specs.declared.fault.Raised.TheVariants.{New, Merged}
use Rattle.controller.specs.Calls.{Raises}
use Rattle.controller.proofs.Keeps.{raises_sound}
use Rattle.bank.specs.Contents.{bank_view}
use Rattle.bank.proofs.Picking.{raises}
use Rattle.bank.proofs.bank.BankController.raise.Goals as goal

pub invariant_of-self : goal.invariant_of-self
invariant_of-self g c =
    record { sound = raises_sound _ c.args.self.now.sound _ (Ok _) _ (raises _ _ _ _ _ (sym c.if-not-has_line.ensures) c.latch.ensures) }

pub returns : goal.returns
returns g c =
    let w = g.R.Registers.wired in
    let o = g.R.Ranking.order in
    let line = c.args.line in
    let was = g.R.Registers.contents c.args.self.now.registers in
    let is = g.R.Registers.contents c.latch.new.self in
    let e : c.raised.result ≡ cond (has was.pending line) Merged New =
    c.raised.ensures ∙ ap (λ b. cond b Merged New) (c.contains-before.ensures ∙ ap (λ s. has s line) c.pending.ensures) in
    let h : Raises (bank_view w o was) line (Ok c.raised.result) (bank_view w o is) =
    subst (λ a. Raises (bank_view w o was) line (Ok a) (bank_view w o is)) (sym e) (raises w o was is line (sym c.if-not-has_line.ensures) c.latch.ensures) in
    record { fixed = refl; leaves = h }
