use Rattle.std.proofs.Common.{refl}
use Rattle.controller.specs.Calls.{Masks}
use Rattle.model.specs.declared.calls.Answer.TheVariants.{Masked as mask_set}
use Rattle.model.specs.declared.calls.Place.TheVariants.{Kernel as kernel}
use Rattle.model.specs.declared.fault.Fault.TheVariants.{Controller}
use Rattle.model.specs.Stage.{Through}
use Rattle.model.specs.Machine.{mask_says}
use Rattle.machine.proofs.Changed.{head_well, head_ill, root_well, root_ill}
use Rattle.machine.proofs.machine.Machine.mask.Goals as goal

pub returns-in_ok-mask_at-in-Head : goal.returns-in_ok-mask_at-in-Head
returns-in_ok-mask_at-in-Head g c =
    let s = c.args.self.now in
    head_well (λ _. mask_set) Controller (λ k. mask_says (kernel k)) (λ j x. refl) (λ j e. refl) (Through (λ v. Masks v c.args.set.bits)) (g.H.Controller.view s.hardware) (g.A.Stage.model s.head) (g.B.Stage.model s.root) _ c.args.kernel c.in-Head.is (g.A.Stage.model c.mask_at.new.stage) _ c.in_ok-mask_at-in-Head.ensures

pub returns-in_err-mask_at-in-Head : goal.returns-in_err-mask_at-in-Head
returns-in_err-mask_at-in-Head g c =
    let s = c.args.self.now in
    head_ill (λ _. mask_set) Controller (λ k. mask_says (kernel k)) (λ j x. refl) (λ j e. refl) (Through (λ v. Masks v c.args.set.bits)) (g.H.Controller.view s.hardware) (g.A.Stage.model s.head) (g.B.Stage.model s.root) _ c.args.kernel c.in-Head.is (g.A.Stage.model c.mask_at.new.stage) _ c.from_residual.result c.in_err-mask_at-in-Head.ensures c.from_residual.ensures.1

pub returns-in_ok-mask_at-in-Root : goal.returns-in_ok-mask_at-in-Root
returns-in_ok-mask_at-in-Root g c =
    let s = c.args.self.now in
    root_well (λ _. mask_set) Controller (λ k. mask_says (kernel k)) (λ j x. refl) (λ j e. refl) (Through (λ v. Masks v c.args.set.bits)) (g.H.Controller.view s.hardware) (g.A.Stage.model s.head) (g.B.Stage.model s.root) _ c.args.kernel c.in-Root.is (g.B.Stage.model c.mask_at-in-Root.new.stage) _ c.in_ok-mask_at-in-Root.ensures

pub returns-in_err-mask_at-in-Root : goal.returns-in_err-mask_at-in-Root
returns-in_err-mask_at-in-Root g c =
    let s = c.args.self.now in
    root_ill (λ _. mask_set) Controller (λ k. mask_says (kernel k)) (λ j x. refl) (λ j e. refl) (Through (λ v. Masks v c.args.set.bits)) (g.H.Controller.view s.hardware) (g.A.Stage.model s.head) (g.B.Stage.model s.root) _ c.args.kernel c.in-Root.is (g.B.Stage.model c.mask_at-in-Root.new.stage) _ c.from_residual-in_err-mask_at-in-Root.result c.in_err-mask_at-in-Root.ensures c.from_residual-in_err-mask_at-in-Root.ensures.1
