use Rattle.std.proofs.Common.{◌≡◌, sym, refl, ◌∙◌, subst}
use Rattle.pair8259.specs.Pair.{pair_lines, pair_order}
use Rattle.controller.specs.View.{Sound}
use Rattle.model.specs.Run.{Fresh}
use Rattle.cabinet.specs.Fresh.{cabinet, head_policy, root_policy}
use Rattle.cabinet.proofs.Starting.{made, log_stage_made, machine_is}
use Rattle.playback.proofs.playback.Playback.new.Goals as goal

pub returns : goal.returns
returns c =
    let head = c.on-head.ensures in
    let root = c.on-root.ensures in
    let told = c.new-hardware.ensures.told in
    let told_root = c.new-4.ensures.told in
    let hardware = made _ pair_lines pair_order (subst Sound (sym told) c.new.result.sound) (told ∙ c.new.ensures) in
    let at_head = log_stage_made _ _ head_policy c.new-2.result.sound c.new-2.ensures head.own head.policy head.lowest head.unstalled in
    let at_root = log_stage_made _ _ root_policy (subst Sound (sym told_root) c.new-3.result.sound) (told_root ∙ c.new-3.ensures) root.own root.policy root.lowest root.unstalled in
    let is : _ ≡ cabinet = c.lay_out-machine.ensures.model ∙ machine_is (told ∙ c.new.ensures) at_head.1 at_root.1 in
    record { off = refl; machine = is; fresh = subst Fresh is (c.lay_out-machine.ensures.fresh hardware at_head.0 at_root.0) }
