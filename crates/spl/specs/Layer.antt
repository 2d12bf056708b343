-- What the spl layer tells, of its fields.
use Rattle.std.specs.Prelude.{◌≡◌}
use Rattle.levels.specs.declared.Level as level
use Rattle.controller.specs.declared.interface.Controller as controller
use Rattle.controller.specs.View.{View}
use Rattle.spl.specs.declared.policy.Policy as policy
use Rattle.spl.specs.declared.layer.Spl.{Spl}
use Rattle.spl.specs.Blocking.{spl_view}

module _ {P C K L : Type 0} {p : policy.Ghosts P K} {k : level.Ghosts K} {c : controller.Ghosts C L} {l : level.Ghosts L} where
  -- what the layer tells
  abbrev pub layer_view : Spl P C K L p k c l → View
  layer_view s = spl_view (c.view s.below) s.own.bits s.low.bits

  -- policy, level, own mask and the lines that the level blocks are the same in both
  abbrev pub SameSettings : Spl P C K L p k c l → Spl P C K L p k c l → Type 0
  SameSettings s t = (t.policy ≡ s.policy) × (t.level ≡ s.level) × (t.own ≡ s.own) × (t.low ≡ s.low)
