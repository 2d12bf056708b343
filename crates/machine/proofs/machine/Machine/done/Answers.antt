use Rattle.std.proofs.Common.{refl}
use Rattle.controller.specs.Calls.{Ends}
use Rattle.model.specs.declared.calls.Answer.TheVariants.{Ended as ended}
use Rattle.model.specs.declared.fault.Fault.TheVariants.{Controller}
use Rattle.model.specs.Stage.{Through}
use Rattle.model.specs.Machine.{done_says}
use Rattle.machine.proofs.Changed.{head_well, head_ill, root_well, root_ill}
use Rattle.machine.proofs.machine.Machine.done.Goals as goal

pub returns-in_ok-end_at-in-Head : goal.returns-in_ok-end_at-in-Head
returns-in_ok-end_at-in-Head g c =
    let s = c.args.self.now in
    head_well ended Controller done_says (λ j x. refl) (λ j e. refl) (Through Ends) (g.H.Controller.view s.hardware) (g.A.Stage.model s.head) (g.B.Stage.model s.root) _ c.args.kernel c.in-Head.is (g.A.Stage.model c.end_at.new.stage) _ c.in_ok-end_at-in-Head.ensures

pub returns-in_err-end_at-in-Head : goal.returns-in_err-end_at-in-Head
returns-in_err-end_at-in-Head g c =
    let s = c.args.self.now in
    head_ill ended Controller done_says (λ j x. refl) (λ j e. refl) (Through Ends) (g.H.Controller.view s.hardware) (g.A.Stage.model s.head) (g.B.Stage.model s.root) _ c.args.kernel c.in-Head.is (g.A.Stage.model c.end_at.new.stage) _ c.from_residual.result c.in_err-end_at-in-Head.ensures c.from_residual.ensures.1

pub returns-in_ok-end_at-in-Root : goal.returns-in_ok-end_at-in-Root
returns-in_ok-end_at-in-Root g c =
    let s = c.args.self.now in
    root_well ended Controller done_says (λ j x. refl) (λ j e. refl) (Through Ends) (g.H.Controller.view s.hardware) (g.A.Stage.model s.head) (g.B.Stage.model s.root) _ c.args.kernel c.in-Root.is (g.B.Stage.model c.end_at-in-Root.new.stage) _ c.in_ok-end_at-in-Root.ensures

pub returns-in_err-end_at-in-Root : goal.returns-in_err-end_at-in-Root
returns-in_err-end_at-in-Root g c =
    let s = c.args.self.now in
    root_ill ended Controller done_says (λ j x. refl) (λ j e. refl) (Through Ends) (g.H.Controller.view s.hardware) (g.A.Stage.model s.head) (g.B.Stage.model s.root) _ c.args.kernel c.in-Root.is (g.B.Stage.model c.end_at-in-Root.new.stage) _ c.from_residual-in_err-end_at-in-Root.result c.in_err-end_at-in-Root.ensures c.from_residual-in_err-end_at-in-Root.ensures.1
