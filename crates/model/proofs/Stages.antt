-- A stage is a controller by what it tells.
use Rattle.std.proofs.Common.{◌≡◌, ℕ, cond, sym, ap, ◌∙◌, subst}
use Rattle.lines.specs.Sets.{union, common}
use Rattle.controller.specs.View.{View, set_blocked}
use Rattle.controller.specs.Calls.{Raises, Masks, Takes, Ends}
use Rattle.model.specs.Stage.{StageModel, told, telling}
use Rattle.model.specs.Promises.{ToldThrough}
use Rattle.model.proofs.Views.{Fixed, raises_fixed, masks_fixed, takes_fixed, ends_fixed}

-- what a call that changes neither the lines nor what is blocked leaves is what the stage then tells
tells_after : (s : StageModel) (w : View) → Fixed (told s) w → told (telling s w) ≡ w
tells_after s w f =
    ap (set_blocked w) (ap (λ l. cond s.stalled l (union s.own.blocked (common l (s.policy.not_above s.level)))) f.lines ∙ sym f.blocked)

told_through : {X : Type 0} (R : View → X → View → Type 0) → ((v w : View) (r : X) → R v r w → Fixed v w) → ToldThrough R
told_through R fixed s s' r = (
  λ (w, h, e). subst (R (told s) r) (sym (ap told e ∙ tells_after s w (fixed (told s) w r h))) h,
  λ h b p l t. (told s', h, λ i. record { own = set_blocked s'.own (b i); policy = p i; level = l i; stalled = t i }),
)

pub raise_through : (n : ℕ) → ToldThrough (λ v. Raises v n)
raise_through n = told_through (λ v. Raises v n) (raises_fixed n)

pub mask_through : (s : ℕ) → ToldThrough (λ v. Masks v s)
mask_through s = told_through (λ v. Masks v s) (masks_fixed s)

pub take_through : ToldThrough Takes
take_through = told_through Takes takes_fixed

pub end_through : ToldThrough Ends
end_through = told_through Ends ends_fixed
