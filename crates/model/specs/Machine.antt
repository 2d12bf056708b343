-- The machine: a hardware controller and a stage for each kernel; what each call answers and leaves.
use Rattle.std.specs.Prelude.{◌≡◌, ℕ, ◌<◌, ◌≤◌, Bool, true, false, cond, ◌⊎◌, List, [], ◌∷◌, Ok, Err, Option, Result, ◌==◌, nat_lt}
use Rattle.lines.specs.Sets.{union, common, size}
use Rattle.lines.specs.declared.line_set.LineSet.{LineSet}
use Rattle.controller.specs.declared.fault.ControllerFault.{ControllerFault}
use Rattle.controller.specs.declared.fault.Raised.{Raised}
use Rattle.controller.specs.View.{View, Deliverable, Serving, set_pending}
use Rattle.controller.specs.Calls.{Raises, Masks, Takes, Ends}
use Rattle.spl.specs.declared.fault.LevelFault.{LevelFault}
use Rattle.model.specs.declared.calls.Kernel.{Kernel}
use Rattle.model.specs.declared.calls.Kernel.TheVariants.{Head as head, Root as root}
use Rattle.model.specs.declared.calls.Place.{Place}
use Rattle.model.specs.declared.calls.Place.TheVariants.{Hardware as hardware, Kernel as kernel}
use Rattle.model.specs.declared.calls.Question.{Question}
use Rattle.model.specs.declared.calls.Question.TheVariants.{Lines as lines, Pending as pending, Masked as masked, Blocked as blocked, InService as in_service}
use Rattle.model.specs.declared.calls.StageCall.{StageCall}
use Rattle.model.specs.declared.calls.StageCall.TheVariants.{Done as done, Mask as mask, Stall as stall, Unstall as unstall, SetLevel as set_level}
use Rattle.model.specs.declared.calls.Call.{Call}
use Rattle.model.specs.declared.calls.Call.TheVariants.{Raise as raise, MaskHardware as mask_hardware, Pump as pump, Next as next, To as to, Ask as ask}
use Rattle.model.specs.declared.calls.Answer.{Answer}
use Rattle.model.specs.declared.fault.Fault.TheVariants.{Controller, Level, OverLimit}
use Rattle.model.specs.declared.fault.MachineFault.{MachineFault}
use Rattle.model.specs.declared.calls.Answer.TheVariants.{Raised as raised, Masked as mask_set, Arrived as arrived, Delivered as delivered, Held as held, Busy as busy, Ended as ended, WasStalled as was_stalled, WasAtLevel as was_at_level, Told as set_told}
use Rattle.model.specs.Arrivals.{Arrivals, cleared}
use Rattle.model.specs.Stage.{StageModel, told, set_own, Through, SetsStalled, SetsStageLevel}

-- ---- the kernels

-- the place of a kernel in the pipeline
abbrev pub rank : Kernel → ℕ
rank head = 0
rank root = 1

-- all kernels
abbrev pub pipeline : List Kernel
pipeline = head ∷ root ∷ []

-- kernel j stands before kernel k
abbrev pub before : Kernel → Kernel → Bool
before j k = nat_lt (rank j) (rank k)

-- j and k are one kernel
abbrev pub same : Kernel → Kernel → Bool
same j k = rank j == rank k

-- ---- routes

-- for each kernel the hardware lines that it handles and those that it passes on
pub record Routes : Type 0 where
  pub handles : Kernel → ℕ
  pub passes : Kernel → ℕ

-- of the lines s, those that each kernel of the list that stands before k passes on
abbrev pub passed_to : Routes → Kernel → List Kernel → ℕ → ℕ
passed_to r k [] s = s
passed_to r k (j ∷ js) s = passed_to r k js (cond (before j k) (common (r.passes j) s) s)

-- the lines routed to a kernel: those that it handles and that every kernel before it passes on
abbrev pub routed : Routes → Kernel → ℕ
routed r k = passed_to r k pipeline (r.handles k)

-- ---- the machine

-- what the hardware controller tells, the stage of each kernel, and the routes
pub record MachineModel : Type 0 where
  pub hardware : View
  pub stage : Kernel → StageModel
  pub routes : Routes

-- the machine with one part changed
abbrev pub with_hardware : MachineModel → View → MachineModel
with_hardware m v = record { hardware = v; stage = m.stage; routes = m.routes }

abbrev pub with_stage : MachineModel → Kernel → StageModel → MachineModel
with_stage m k s = record { hardware = m.hardware; stage = λ j. cond (same j k) s (m.stage j); routes = m.routes }

-- what a place tells
abbrev pub view : MachineModel → Place → View
view m hardware = m.hardware
view m (kernel k) = told (m.stage k)

-- what is told to a question
abbrev pub tells : View → Question → ℕ
tells v lines = v.lines
tells v pending = v.pending
tells v masked = v.masked
tells v blocked = v.blocked
tells v in_service = v.in_service

-- a set as the code has it
abbrev pub set_of : ℕ → LineSet
set_of s = record { bits = s }

-- ---- what the calls leave, by their results

-- a controller's call, by its relation R, at the hardware
abbrev pub AtHardware : {X : Type 0} → (View → X → View → Type 0) → MachineModel → X → MachineModel → Type 0
AtHardware R m r m' = (w : View) × R m.hardware r w × (m' ≡ with_hardware m w)

-- a stage's call, by its relation R, at the stage of kernel k
abbrev pub AtStage : {X : Type 0} → Kernel → (StageModel → X → StageModel → Type 0) → MachineModel → X → MachineModel → Type 0
AtStage k R m r m' = (s : StageModel) × R (m.stage k) r s × (m' ≡ with_stage m k s)

-- the lines that the stage of kernel k takes up: of those routed to the kernel the ones that the stage has
abbrev pub taken_up : MachineModel → Kernel → ℕ
taken_up m k = common (routed m.routes k) (m.stage k).own.lines

-- the arrivals s leave the hardware, and each is pending at every kernel that it is routed to
abbrev pub pumped : MachineModel → ℕ → MachineModel
pumped m s =
    record {
      hardware = cleared m.hardware s;
      stage = λ k. set_own (m.stage k) (set_pending (m.stage k).own (union (m.stage k).own.pending (common s (taken_up m k))));
      routes = m.routes;
    }

-- pump of n: the set of the arrivals; more than the limit is refused
abbrev pub Pumps : {E : Type 0} → ℕ → ℕ → MachineModel → Result ℕ E → MachineModel → Type 0
Pumps limit n m (Ok s) m' = (n ≤ limit) × Arrivals m.hardware n s × (m' ≡ pumped m s)
Pumps limit n m (Err e) m' = (limit < n) × (m' ≡ m)

-- kernel k is held: the stage of a kernel before it blocks all its lines
abbrev pub Held : MachineModel → Kernel → Type 0
Held m k = (j : Kernel) × (before j k ≡ true) × ((told (m.stage j)).blocked ≡ (told (m.stage j)).lines)

-- a kernel before k is busy: its stage has a line in service or deliverable
abbrev pub Busy : MachineModel → Kernel → Type 0
Busy m k = (j : Kernel) × (before j k ≡ true) × ((n : ℕ) × (Serving (told (m.stage j)) n ⊎ Deliverable (told (m.stage j)) n))

-- ---- what they answer

-- a call by its relation R, answered as `says` has it of the result
pub record Answered {S X A : Type 0} (R : S → X → S → Type 0) (says : X → A) (s : S) (a : A) (s' : S) : Type 0 where
  pub result : X
  pub does : R s result s'
  pub answers : a ≡ says result

-- what a call is answered: an answer, or a refusal with its place
abbrev pub Reply : Type 0
Reply = Result Answer MachineFault

-- the reply b, and the machine left as it was
abbrev pub Only : Reply → MachineModel → Reply → MachineModel → Type 0
Only b m a m' = (a ≡ b) × (m' ≡ m)

-- what each result is as a reply: a refusal is the controller's or the stage's own, with its place
abbrev pub raise_says : Result Raised ControllerFault → Reply
raise_says (Ok r) = Ok (raised r)
raise_says (Err e) = Err (record { fault = Controller e; place = hardware })

abbrev pub mask_says : Place → Result (Unit {0}) ControllerFault → Reply
mask_says p (Ok u) = Ok mask_set
mask_says p (Err e) = Err (record { fault = Controller e; place = p })

abbrev pub done_says : Kernel → Result ℕ ControllerFault → Reply
done_says k (Ok n) = Ok (ended n)
done_says k (Err e) = Err (record { fault = Controller e; place = kernel k })

abbrev pub level_says : Kernel → Result ℕ LevelFault → Reply
level_says k (Ok c) = Ok (was_at_level c)
level_says k (Err e) = Err (record { fault = Level e; place = kernel k })

abbrev pub pump_says : {E : Type 0} → Result ℕ E → Reply
pump_says (Ok s) = Ok (arrived (size s) (set_of s))
pump_says (Err e) = Err (record { fault = OverLimit; place = hardware })

abbrev pub take_says : Option ℕ → Reply
take_says r = Ok (delivered r)

abbrev pub stall_says : Bool → Reply
stall_says b = Ok (was_stalled b)

-- next for kernel k: held, else busy, else the first deliverable line of its stage or none
abbrev pub Nexts : Kernel → MachineModel → Reply → MachineModel → Type 0
Nexts k m a m' =
    (Held m k × Only (Ok held) m a m')
    ⊎ (((Held m k → ⊥) × Busy m k × Only (Ok busy) m a m') ⊎ ((Held m k → ⊥) × (Busy m k → ⊥) × Answered (AtStage k (Through Takes)) take_says m a m'))

-- the calls of the stage of kernel k
abbrev pub StageStep : Kernel → MachineModel → StageCall → Reply → MachineModel → Type 0
StageStep k m done a m' = Answered (AtStage k (Through Ends)) (done_says k) m a m'
StageStep k m (mask s) a m' = Answered (AtStage k (Through (λ v. Masks v s.bits))) (mask_says (kernel k)) m a m'
StageStep k m stall a m' = Answered (AtStage k (SetsStalled true)) stall_says m a m'
StageStep k m unstall a m' = Answered (AtStage k (SetsStalled false)) stall_says m a m'
StageStep k m (set_level c) a m' = Answered (AtStage k (SetsStageLevel c)) (level_says k) m a m'

-- what each call answers and leaves
abbrev pub Step : MachineModel → Call → Reply → MachineModel → Type 0
Step m (raise n) a m' = Answered (AtHardware (λ v. Raises v n)) raise_says m a m'
Step m (mask_hardware s) a m' = Answered (AtHardware (λ v. Masks v s.bits)) (mask_says hardware) m a m'
Step m (pump n) a m' = Answered (Pumps {E = Unit {0}} 64 n) pump_says m a m'
Step m (next k) a m' = Nexts k m a m'
Step m (to k c) a m' = StageStep k m c a m'
Step m (ask p q) a m' = Only (Ok (set_told (set_of (tells (view m p) q)))) m a m'
