-- A machine at whichever phase it is.
use Rattle.std.specs.Prelude.{Bool, true, false}
use Rattle.levels.specs.declared.Level as level
use Rattle.controller.specs.declared.interface.Controller as controller
use Rattle.stage.specs.declared.stage.Stage as stage
use Rattle.model.specs.Machine.{MachineModel}
use Rattle.machine.specs.Whole.{model_of}
use Rattle.trace.specs.declared.session.Session.{Session}
use Rattle.trace.specs.declared.session.Session.TheVariants.{LaidOut, Running}

abbrev pub session_model : {H A B L : Type 0} {l : level.Ghosts L} (h : controller.Ghosts H L) (a : stage.Ghosts A) (b : stage.Ghosts B) → Session H A B L h l a b → MachineModel
session_model h a b (LaidOut m) = model_of h a b m
session_model h a b (Running m) = model_of h a b m

abbrev pub has_started : {H A B L : Type 0} {l : level.Ghosts L} {h : controller.Ghosts H L} {a : stage.Ghosts A} {b : stage.Ghosts B} → Session H A B L h l a b → Bool
has_started (LaidOut m) = false
has_started (Running m) = true
