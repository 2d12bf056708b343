-- The stall layer.
use Rattle.std.specs.Prelude.{◌≡◌, ℕ, Bool, true, false, cond, None, Option}
use Rattle.controller.specs.declared.interface.Controller.{Ghosts}
use Rattle.controller.specs.View.{View, set_blocked}
use Rattle.stall.specs.declared.layer.Stall.{Stall}

-- what the layer tells over a controller: while the bit is set all lines are blocked
abbrev pub stalled_view : View → Bool → View
stalled_view v stalled = set_blocked v (cond stalled v.lines v.blocked)

abbrev pub layer_view : {C L : Type 0} → Ghosts C L → Stall C L → View
layer_view c s = stalled_view (c.view s.below) s.stalled

-- a call through the layer: while the bit is set the answer is none and nothing below is touched, else the call is made below
abbrev pub Gated : Bool → Option ℕ → Type 0 → Type 0 → Type 0
Gated true r untouched passed = (r ≡ None) × untouched
Gated false r untouched passed = passed
