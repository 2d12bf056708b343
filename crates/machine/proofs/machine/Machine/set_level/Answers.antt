use Rattle.std.proofs.Common.{refl}
use Rattle.model.specs.declared.calls.Answer.TheVariants.{WasAtLevel as was_at_level}
use Rattle.model.specs.declared.fault.Fault.TheVariants.{Level}
use Rattle.model.specs.Stage.{SetsStageLevel}
use Rattle.model.specs.Machine.{level_says}
use Rattle.machine.proofs.Changed.{head_well, head_ill, root_well, root_ill}
use Rattle.machine.proofs.machine.Machine.set_level.Goals as goal

pub returns-in_ok-set_level_at-in-Head : goal.returns-in_ok-set_level_at-in-Head
returns-in_ok-set_level_at-in-Head g c =
    let s = c.args.self.now in
    head_well was_at_level Level level_says (λ j x. refl) (λ j e. refl) (SetsStageLevel c.args.code) (g.H.Controller.view s.hardware) (g.A.Stage.model s.head) (g.B.Stage.model s.root) _ c.args.kernel c.in-Head.is (g.A.Stage.model c.set_level_at.new.stage) _ c.in_ok-set_level_at-in-Head.ensures

pub returns-in_err-set_level_at-in-Head : goal.returns-in_err-set_level_at-in-Head
returns-in_err-set_level_at-in-Head g c =
    let s = c.args.self.now in
    head_ill was_at_level Level level_says (λ j x. refl) (λ j e. refl) (SetsStageLevel c.args.code) (g.H.Controller.view s.hardware) (g.A.Stage.model s.head) (g.B.Stage.model s.root) _ c.args.kernel c.in-Head.is (g.A.Stage.model c.set_level_at.new.stage) _ c.from_residual.result c.in_err-set_level_at-in-Head.ensures c.from_residual.ensures.1

pub returns-in_ok-set_level_at-in-Root : goal.returns-in_ok-set_level_at-in-Root
returns-in_ok-set_level_at-in-Root g c =
    let s = c.args.self.now in
    root_well was_at_level Level level_says (λ j x. refl) (λ j e. refl) (SetsStageLevel c.args.code) (g.H.Controller.view s.hardware) (g.A.Stage.model s.head) (g.B.Stage.model s.root) _ c.args.kernel c.in-Root.is (g.B.Stage.model c.set_level_at-in-Root.new.stage) _ c.in_ok-set_level_at-in-Root.ensures

pub returns-in_err-set_level_at-in-Root : goal.returns-in_err-set_level_at-in-Root
returns-in_err-set_level_at-in-Root g c =
    let s = c.args.self.now in
    root_ill was_at_level Level level_says (λ j x. refl) (λ j e. refl) (SetsStageLevel c.args.code) (g.H.Controller.view s.hardware) (g.A.Stage.model s.head) (g.B.Stage.model s.root) _ c.args.kernel c.in-Root.is (g.B.Stage.model c.set_level_at-in-Root.new.stage) _ c.from_residual-in_err-set_level_at-in-Root.result c.in_err-set_level_at-in-Root.ensures c.from_residual-in_err-set_level_at-in-Root.ensures.1
