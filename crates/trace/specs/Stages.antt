-- The stages of the kernels whose saved levels a trace keeps: classes for the head, BSD levels for the root.
use Rattle.levels.specs.declared.Class.{Class}
use Rattle.levels.specs.declared.BsdLevel.{BsdLevel}
use Rattle.levels.specs.declared.BsdLevel.TheVariants as bsd
use Rattle.levels.specs.declared.Level as level
use Rattle.levels.specs.Kinds.{code}
use Rattle.std.specs.Prelude.{nat_lt}
use Rattle.controller.specs.declared.interface.Controller as controller
use Rattle.spl.specs.declared.policy.Policy as policy
use Rattle.spl.specs.declared.head.HeadPolicy.{HeadPolicy}
use Rattle.spl.specs.declared.root.RootPolicy.{RootPolicy}
use Rattle.spl.specs.declared.layer.Spl.{Spl}
use Rattle.spl.specs.Head.{head_class, head_lowest, head_code, head_named}
use Rattle.spl.specs.Root.{root_level, root_code, root_named}
use Rattle.stall.specs.declared.layer.Stall.{Stall}
use Rattle.stage.specs.declared.stage.Stage as stage
use Rattle.stage.specs.Layers.{stage_model}

-- the policies and their orders
abbrev pub head_policy : policy.Ghosts HeadPolicy Class
head_policy = record { levels = λ _ n. head_class n; least = λ _. head_lowest; codes = λ _ l. head_code l; named = λ _ c. head_named c }

abbrev pub root_policy : policy.Ghosts RootPolicy BsdLevel
root_policy = record { levels = λ _ n. root_level n; least = λ _. bsd.None; codes = λ _ l. root_code l; named = λ _ c. root_named c }

abbrev pub class_order : level.Ghosts Class
class_order = record { above = λ a b. nat_lt b.0 a.0 }

abbrev pub bsd_order : level.Ghosts BsdLevel
bsd_order = record { above = λ a b. nat_lt (code b) (code a) }

-- the stages over any controllers
module _ {C L : Type 0} {l : level.Ghosts L} (c : controller.Ghosts C L) where
  abbrev pub head_stage : stage.Ghosts (Stall (Spl HeadPolicy C Class L head_policy class_order c l) L)
  head_stage = record { model = λ s. stage_model s }

  abbrev pub root_stage : stage.Ghosts (Stall (Spl RootPolicy C BsdLevel L root_policy bsd_order c l) L)
  root_stage = record { model = λ s. stage_model s }
