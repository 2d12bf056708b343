-- What the optimistic layer tells, of its fields.
use Rattle.levels.specs.declared.Level as level
use Rattle.controller.specs.declared.interface.Controller as controller
use Rattle.controller.specs.View.{View}
use Rattle.optimistic.specs.declared.layer.Optimistic.{Optimistic}
use Rattle.optimistic.specs.Logging.{logged}

abbrev pub layer_view : {C L : Type 0} {l : level.Ghosts L} (c : controller.Ghosts C L) → Optimistic C L c l → View
layer_view c s = logged (c.view s.below) s.soft.bits s.log.bits
