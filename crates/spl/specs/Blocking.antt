-- The spl layer: what it tells, and what it keeps.
use Rattle.std.specs.Prelude.{◌≡◌, ℕ, Bool, not, ◌&&◌, Ok, Err, Result}
use Rattle.lines.specs.Sets.{has, union, Within}
use Rattle.controller.specs.declared.fault.ControllerFault.{ControllerFault}
use Rattle.controller.specs.declared.fault.ControllerFault.TheVariants.{MaskOutside}
use Rattle.controller.specs.View.{View, set_masked, set_blocked}

-- `low` has the lines of which "above the current level" does not hold
abbrev pub Low : ℕ → (ℕ → Bool) → ℕ → Type 0
Low lines above low = (n : ℕ) → has low n ≡ (has lines n && not (above n))

-- what the layer tells over a controller: masked is its own mask, blocked is what is blocked below together with the low lines
abbrev pub spl_view : View → ℕ → ℕ → View
spl_view v own low = set_blocked (set_masked v own) (union v.blocked low)

-- the mask below is its own mask together with the lines whose level is not above the current level
pub record Blocking (v : View) (above : ℕ → Bool) (own low : ℕ) : Type 0 where
  pub mask : v.masked ≡ union own low
  pub own_in : Within own v.lines
  pub low_are : Low v.lines above low

-- a mask of the layer: the set becomes its own mask, and with the low lines the mask below; one with a line that the controller
-- lacks is refused, and nothing changes
abbrev pub MasksOwn : View → ℕ → ℕ → Result (Unit {0}) ControllerFault → Type 0 → Type 0 → View → Type 0
MasksOwn v low set (Ok a) written unchanged w = Within set v.lines × written × (w ≡ set_masked v (union set low))
MasksOwn v low set (Err e) written unchanged w = (Within set v.lines → ⊥) × (e ≡ MaskOutside) × unchanged
