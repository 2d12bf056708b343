-- The calls of the layers as the calls of a stage.
use Rattle.std.proofs.Common.{◌≡◌, ℕ, Bool, false, Some, None, Ok, Err, Option, Result, sym, refl, ap, ◌∙◌, subst, ap₂}
use Rattle.lines.specs.Sets.{union, common}
use Rattle.controller.specs.declared.fault.ControllerFault.{ControllerFault}
use Rattle.controller.specs.declared.fault.Raised.{Raised}
use Rattle.controller.specs.View.{View, set_masked, set_blocked, raised, ended}
use Rattle.controller.specs.Calls.{Raises, Masks, Takes, Ends}
use Rattle.spl.specs.Blocking.{spl_view, MasksOwn}
use Rattle.model.specs.Stage.{PolicyModel, StageModel, told, Through}
use Rattle.stage.specs.Layers.{staged}

pub raises_through : (v v' : View) (own : ℕ) (p : PolicyModel) (c : ℕ) (b : Bool) (n : ℕ) (r : Result Raised ControllerFault)
    → Raises v n r v' → Through (λ x. Raises x n) (staged v own p c b) r (staged v' own p c b)
raises_through v v' own p c b n (Ok a) h = (raised (told (staged v own p c b)) n, (h.0, h.1, refl), ap (λ x. staged x own p c b) h.2)
raises_through v v' own p c b n (Err e) h = (told (staged v own p c b), (h.0, h.1, refl), ap (λ x. staged x own p c b) h.2)

pub ends_through : (v v' : View) (own : ℕ) (p : PolicyModel) (c : ℕ) (b : Bool) (r : Result ℕ ControllerFault)
    → Ends v r v' → Through Ends (staged v own p c b) r (staged v' own p c b)
ends_through v v' own p c b (Ok n) h = (ended (told (staged v own p c b)) n, (record { one = h.0.one; before = h.0.before }, refl), ap (λ x. staged x own p c b) h.1)
ends_through v v' own p c b (Err e) h = (told (staged v own p c b), (h.0, h.1, refl), ap (λ x. staged x own p c b) h.2)

pub masks_through : (v v' : View) (own own' low : ℕ) (p : PolicyModel) (c : ℕ) (b : Bool) (set : ℕ) (s' : StageModel) (unchanged : Type 0) (r : Result (Unit {0}) ControllerFault)
    → (unchanged → s' ≡ staged v own p c b) → s' ≡ staged v' own' p c b
    → MasksOwn v low set r (own' ≡ set) unchanged v' → Through (λ x. Masks x set) (staged v own p c b) r s'
masks_through v v' own own' low p c b set s' unchanged (Ok a) f e h =
    (set_masked (told (staged v own p c b)) set, (h.0, refl), e ∙ ap₂ (λ x o. staged x o p c b) h.2 h.1)
masks_through v v' own own' low p c b set s' unchanged (Err x) f e h = (told (staged v own p c b), (h.0, h.1, refl), f h.2)

takes_blocked : (v v' : View) (r : Option ℕ) → Takes v r v' → v'.blocked ≡ v.blocked
takes_blocked v v' (Some n) h = ap (λ x. x.blocked) h.1
takes_blocked v v' None h = ap (λ x. x.blocked) h.1

pub takes_through : (v v' : View) (own low : ℕ) (p : PolicyModel) (c : ℕ) (b : Bool) (r : Option ℕ) → b ≡ false → low ≡ common v.lines (p.not_above c)
    → Takes (spl_view v own low) r (spl_view v' own low) → Takes v r v' → Through Takes (staged v own p c b) r (staged v' own p c b)
takes_through v v' own low p c b r q e h k = subst (λ z. Through Takes (staged v own p c z) r (staged v' own p c z)) (sym q) at
  where
    at : Through Takes (staged v own p c false) r (staged v' own p c false)
    at = (
      spl_view v' own low,
      subst (λ x. Takes (set_blocked (set_masked v own) (union v.blocked x)) r (spl_view v' own low)) e h,
      ap (λ x. record { own = set_blocked (set_masked v' own) x; policy = p; level = c; stalled = false }) (takes_blocked v v' r k),
    )
