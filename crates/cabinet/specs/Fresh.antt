-- The machine of the cabinet by the rules, straight from its start.
use Rattle.std.specs.Prelude.{◌≡◌, false, List, length, nat_lt}
use Rattle.levels.specs.declared.BsdLevel.TheVariants.{None as lowest_level}
use Rattle.levels.specs.Kinds.{code}
use Rattle.controller.specs.View.{fresh as as_made}
use Rattle.bank.specs.Contents.{all_lines}
use Rattle.pair8259.specs.Pair.{pair_lines, pair_order}
use Rattle.pending_log.specs.Places.{place_order}
use Rattle.spl.specs.Head.{head_class, head_lowest, head_code, head_named}
use Rattle.spl.specs.Root.{root_level, root_code, root_named}
use Rattle.model.specs.declared.calls.Call.{Call}
use Rattle.model.specs.Stage.{PolicyModel, StageModel}
use Rattle.model.specs.Machine.{MachineModel, Reply}
use Rattle.model.specs.Run.{Fresh, Routable}
use Rattle.model.specs.Promises.{RunPromises}
use Rattle.stage.specs.Layers.{coded_policy}
use Rattle.routes.specs.Sets.{default_routes}
use Rattle.machine.specs.Whole.{machine}
use Rattle.machine.specs.Played.{entries}

abbrev pub head_policy : PolicyModel
head_policy = coded_policy head_class (λ a b. nat_lt b.0 a.0) head_lowest head_code head_named

abbrev pub root_policy : PolicyModel
root_policy = coded_policy root_level (λ a b. nat_lt (code b) (code a)) lowest_level root_code root_named

-- a stage on a pending log
abbrev pub log_stage : PolicyModel → StageModel
log_stage p = record { own = as_made all_lines place_order; policy = p; level = p.lowest; stalled = false }

-- the pair as hardware, a pending log at each kernel, no route set
abbrev pub cabinet : MachineModel
cabinet = machine (as_made pair_lines pair_order) (log_stage head_policy) (log_stage root_policy) (default_routes pair_lines all_lines)

-- the replies to a list of calls are those of a run from a fresh start, and the promises hold of it
pub record Plays (m : MachineModel) (calls : List Call) (replies : List Reply) : Type 0 where
  pub fresh : Fresh m
  pub routable : Routable m
  pub all : length replies ≡ length calls
  pub left : MachineModel
  pub promises : RunPromises m (entries calls replies) left
