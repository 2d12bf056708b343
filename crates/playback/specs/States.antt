-- The cabinet's machine under a trace: its parts as types, and what they are by the rules.
use Rattle.std.specs.Prelude.{◌≡◌, false, replicate}
use Rattle.levels.specs.declared.Class.{Class}
use Rattle.levels.specs.declared.BsdLevel.{BsdLevel}
use Rattle.levels.specs.declared.BsdLevel.TheVariants.{None as lowest_level}
use Rattle.levels.specs.declared.PairLevel.{PairLevel}
use Rattle.levels.specs.declared.LogPlace.{LogPlace}
use Rattle.bank.specs.declared.bank.Bank.{Bank}
use Rattle.pair8259.specs.declared.chips.Chips.{Chips}
use Rattle.pending_log.specs.declared.registers.LogRegisters.{LogRegisters}
use Rattle.optimistic.specs.declared.layer.Optimistic.{Optimistic}
use Rattle.spl.specs.declared.head.HeadPolicy.{HeadPolicy}
use Rattle.spl.specs.declared.root.RootPolicy.{RootPolicy}
use Rattle.spl.specs.declared.layer.Spl.{Spl}
use Rattle.stall.specs.declared.layer.Stall.{Stall}
use Rattle.model.specs.Machine.{MachineModel}
use Rattle.model.specs.Run.{Fresh}
use Rattle.cabinet.specs.Fresh.{cabinet}
use Rattle.trace.specs.declared.session.Session.{Session}
use Rattle.trace.specs.declared.saved.Saved.{Saved}
use Rattle.trace.specs.Lines.{Traced, traced, traced_by}
use Rattle.trace.specs.Sessions.{has_started, session_model}
use Rattle.trace.specs.Stages.{head_policy, root_policy, class_order, bsd_order, head_stage, root_stage}
use Rattle.playback.specs.Parts.{pair, pair_levels, pair_ranking, pair_registers, log, log_levels, log_ranking, log_registers, optimistic}

-- a pending log, the hardware and the stages of the kernels
abbrev pub Log : Type 0
Log = Bank LogRegisters LogPlace log_registers log_ranking log_levels

abbrev pub Pair : Type 0
Pair = Bank Chips PairLevel pair_registers pair_ranking pair_levels

abbrev pub Hardware : Type 0
Hardware = Optimistic Pair PairLevel pair pair_levels

abbrev pub HeadStage : Type 0
HeadStage = Stall (Spl HeadPolicy Log Class LogPlace head_policy class_order log log_levels) LogPlace

abbrev pub RootStage : Type 0
RootStage = Stall (Spl RootPolicy (Optimistic Log LogPlace log log_levels) BsdLevel LogPlace root_policy bsd_order (optimistic log) log_levels) LogPlace

-- the machine, laid out or running
abbrev pub CabinetSession : Type 0
CabinetSession = Session Hardware HeadStage RootStage PairLevel (optimistic pair) pair_levels (head_stage log) (root_stage (optimistic log))

-- the machine by the rules
abbrev pub machine_of : CabinetSession → MachineModel
machine_of s = session_model (optimistic pair) (head_stage log) (root_stage (optimistic log)) s

-- the machine and the saved levels
abbrev pub state : CabinetSession → Saved → Traced
state s a = traced_by (machine_of s) a

-- the cabinet's machine as it is laid out, with no route set
pub record IsLaidOut (s : CabinetSession) : Type 0 where
  pub off : has_started s ≡ false
  pub machine : machine_of s ≡ cabinet
  pub fresh : Fresh cabinet

-- the same with two empty stacks of 16 places, which begin at the lowest levels
abbrev pub at_first : Traced
at_first = traced cabinet (record { places = replicate 16 (record { 0 = 0 }); used = 0 }) (record { places = replicate 16 lowest_level; used = 0 })
