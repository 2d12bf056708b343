-- The machine of the code as the machine of the rules.
use Rattle.std.specs.Prelude.{◌≡◌, false}
use Rattle.levels.specs.declared.Level as level
use Rattle.controller.specs.declared.interface.Controller as controller
use Rattle.controller.specs.View.{View}
use Rattle.stage.specs.declared.stage.Stage as stage
use Rattle.model.specs.Stage.{StageModel}
use Rattle.model.specs.Machine.{MachineModel, Routes}
use Rattle.model.specs.Run.{Made}
use Rattle.machine.specs.declared.machine.Machine.{Machine}
use Rattle.routes.specs.Sets.{by_kernel, routes_of}

abbrev pub machine : View → StageModel → StageModel → Routes → MachineModel
machine v a b r = record { hardware = v; stage = by_kernel a b; routes = r }

-- what the machine is by the rules
abbrev pub model_of : {P H A B L : Type 0} {l : level.Ghosts L} (h : controller.Ghosts H L) (a : stage.Ghosts A) (b : stage.Ghosts B) → Machine P H A B L h l a b → MachineModel
model_of h a b m = machine (h.view m.hardware) (a.model m.head) (b.model m.root) (routes_of m.routes)

-- a stage as it is made
pub record MadeStage (s : StageModel) : Type 0 where
  pub own : Made s.own
  pub lowest : s.level ≡ s.policy.lowest
  pub unstalled : s.stalled ≡ false
