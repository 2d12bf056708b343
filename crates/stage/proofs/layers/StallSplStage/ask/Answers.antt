use Rattle.std.proofs.Common.{ap, ◌∙◌}
use Rattle.model.specs.Machine.{tells}
use Rattle.stage.proofs.Layered.{told_now}
use Rattle.stage.proofs.layers.StallSplStage.ask.Goals as goal

pub returns : goal.returns
returns g c =
    let s = c.args.self.now in
    let told = told_now g.met.P.Policy.decodes g.met.P.Policy.distinct s.below s.stalled (g.met.C.Controller.sound s.below.below) in
    c.told_by.ensures ∙ ap (λ x. tells x c.args.question) told
