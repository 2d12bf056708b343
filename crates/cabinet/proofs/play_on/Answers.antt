use Rattle.std.proofs.Common.{◌≡◌, vec_items, ◌∙◌}
use Rattle.pair8259.specs.Pair.{pair_lines, pair_order}
use Rattle.cabinet.specs.Fresh.{cabinet, head_policy, root_policy}
use Rattle.cabinet.proofs.Starting.{made, log_stage_made, machine_is, plays}
use Rattle.cabinet.proofs.play_on.Goals as goal

pub returns : goal.returns
returns g c =
    let given = c.requires in
    let head = c.on.ensures in
    let root = c.on-2.ensures in
    let hardware = made _ pair_lines pair_order (g.met.H.Controller.sound c.args.hardware) given.pair in
    let at_head = log_stage_made _ _ head_policy (g.met.A.Controller.sound c.args.head) given.at_head head.own head.policy head.lowest head.unstalled in
    let at_root = log_stage_made _ _ root_policy (g.met.B.Controller.sound c.args.root) given.at_root root.own root.policy root.lowest root.unstalled in
    let fresh = c.start-machine.ensures.fresh (c.lay_out.ensures.fresh hardware at_head.0 at_root.0) in
    let is : _ ≡ cabinet = c.start-machine.ensures.same ∙ c.lay_out.ensures.model ∙ machine_is given.pair at_head.1 at_root.1 in
    plays vec_items cabinet _ _ c.args.calls.now c.run.result _ is fresh c.start-machine.ensures.routable c.run.ensures.ran c.run.ensures.promises
