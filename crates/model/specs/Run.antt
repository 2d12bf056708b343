-- Whole runs: lists of calls with their answers.
use Rattle.std.specs.Prelude.{◌≡◌, ℕ, true, false, List, [], ◌∷◌, map}
use Rattle.lines.specs.Sets.{has}
use Rattle.controller.specs.View.{View, Sound, ahead, fresh}
use Rattle.model.specs.declared.calls.Kernel.{Kernel}
use Rattle.model.specs.declared.calls.Call.{Call}
use Rattle.model.specs.Machine.{MachineModel, Reply, Step, routed}

-- a call with its answer
pub record Entry : Type 0 where
  pub call : Call
  pub answer : Reply

abbrev pub calls : List Entry → List Call
calls h = map (λ e. e.call) h

abbrev pub answers : List Entry → List Reply
answers h = map (λ e. e.answer) h

-- the calls of h, answered as it says one after another, lead from m to m'
abbrev pub Run : MachineModel → List Entry → MachineModel → Type 0
Run m [] m' = m' ≡ m
Run m (e ∷ h) m' = (m₁ : MachineModel) × Step m e.call e.answer m₁ × Run m₁ h m'

-- ---- machines as they are made

-- what a controller tells as it is made
pub record Made (v : View) : Type 0 where
  pub sound : Sound v
  pub empty : v ≡ fresh v.lines v.above

-- a machine straight from its start: every controller as it is made, each level its policy's lowest, and no stage stalled
pub record Fresh (m : MachineModel) : Type 0 where
  pub at_hardware : Made m.hardware
  pub at_stage : (k : Kernel) → Made (m.stage k).own
  pub lowest : (k : Kernel) → (m.stage k).level ≡ (m.stage k).policy.lowest
  pub unstalled : (k : Kernel) → (m.stage k).stalled ≡ false

-- every line routed to a kernel is a line of its stage
abbrev pub Routable : MachineModel → Type 0
Routable m = (k : Kernel) (n : ℕ) → has (routed m.routes k) n ≡ true → has (m.stage k).own.lines n ≡ true

-- the same lines, ordered alike: by level, and by level and tie
pub record OrderedAlike (v w : View) : Type 0 where
  pub lines : v.lines ≡ w.lines
  pub levels : (a b : ℕ) → has v.lines a ≡ true → has v.lines b ≡ true → v.above a b ≡ w.above a b
  pub ties : (a b : ℕ) → has v.lines a ≡ true → has v.lines b ≡ true → ahead v a b ≡ ahead w a b

-- equal routes and policies, and controllers with the same lines ordered alike; whatever lies under what they tell may differ
pub record MadeAlike (m n : MachineModel) : Type 0 where
  pub at_hardware : OrderedAlike m.hardware n.hardware
  pub at_stage : (k : Kernel) → OrderedAlike (m.stage k).own (n.stage k).own
  pub policies : (k : Kernel) → (m.stage k).policy ≡ (n.stage k).policy
  pub routes : m.routes ≡ n.routes
