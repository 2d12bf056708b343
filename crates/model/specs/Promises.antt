-- What holds of every list of calls, however long and however full of refusals, from a fresh start.
use Rattle.std.specs.Prelude.{◌≡◌, ℕ, Bool, true, false, not, List, Decides, filter, Ok}
use Rattle.lines.specs.Sets.{has, size}
use Rattle.lines.specs.declared.line_set.LineSet.{LineSet}
use Rattle.controller.specs.View.{View, Sound, Deliverable}
use Rattle.model.specs.declared.calls.Kernel.{Kernel}
use Rattle.model.specs.declared.calls.Kernel.TheVariants.{Root as root}
use Rattle.model.specs.declared.calls.Place.{Place}
use Rattle.model.specs.declared.calls.Place.TheVariants.{Hardware as hardware, Kernel as kernel}
use Rattle.model.specs.declared.calls.Call.{Call}
use Rattle.model.specs.declared.calls.Call.TheVariants.{Raise as raise, MaskHardware as mask_hardware, Pump as pump, Next as next, To as to, Ask as ask}
use Rattle.model.specs.declared.calls.Answer.TheVariants.{Arrived as arrived}
use Rattle.model.specs.Arrivals.{Arrivals, SetOf, Passes, cleared}
use Rattle.model.specs.Stage.{StageModel, told, Through}
use Rattle.model.specs.Machine.{MachineModel, Routes, before, same, routed, view, Step, Reply}
use Rattle.model.specs.Run.{Entry, calls, answers, Run, Fresh, Routable, MadeAlike}
use Rattle.model.specs.Requests.{Mark, marks, strike, InTurn}

-- ---- machines alike answer alike

-- two machines made alike, each as `Start` says, give one list of calls the same answers
abbrev pub AlikeAnswers : (MachineModel → Type 0) → Type 0
AlikeAnswers Start =
    (m n m' n' : MachineModel) (h g : List Entry) → Start m → Start n → MadeAlike m n
    → Run m h m' → Run n g n' → calls h ≡ calls g → answers h ≡ answers g

-- ---- nothing lost, nothing doubled

-- at the hardware and at every kernel, for each line: once the merged requests are struck, they come and go in turn, and a coming is last exactly when the line is told pending
abbrev pub NoneLostNoneDoubled : (List Mark → List Mark) → Type 0
NoneLostNoneDoubled unmerged =
    (m m' : MachineModel) (h : List Entry) (p : Place) (n : ℕ) → Fresh m → Routable m
    → Run m h m' → InTurn (unmerged (marks m.routes p n h)) (has (view m' p).pending n)

-- ---- no kernel disturbs those ahead

-- the call is the hardware's, or names one of these kernels
abbrev pub concerns : (Kernel → Bool) → Call → Bool
concerns these (raise n) = true
concerns these (mask_hardware s) = true
concerns these (pump n) = true
concerns these (next j) = these j
concerns these (to j c) = these j
concerns these (ask hardware q) = true
concerns these (ask (kernel j) q) = these j

-- of a run, the calls of the hardware and of these kernels
abbrev pub part : (Kernel → Bool) → List Entry → List Entry
part these h = filter (λ e. concerns these e.call) h

-- whatever the other calls, and however many, those of the hardware and of these kernels are answered the same; it holds of the kernels that stand before any one
abbrev pub Undisturbed : (Kernel → Bool) → Type 0
Undisturbed these =
    (m n m' n' : MachineModel) (h g : List Entry) → Fresh m → Fresh n → MadeAlike m n
    → Run m h m' → Run n g n' → calls (part these h) ≡ calls (part these g) → answers (part these h) ≡ answers (part these g)

-- the call names kernel k
abbrev pub names : Kernel → Call → Bool
names k (raise n) = false
names k (mask_hardware s) = false
names k (pump n) = false
names k (next j) = same j k
names k (to j c) = same j k
names k (ask hardware q) = false
names k (ask (kernel j) q) = same j k

-- of a run, the calls that don't name kernel k
abbrev pub others : Kernel → List Entry → List Entry
others k h = filter (λ e. not (names k e.call)) h

-- whatever is called of kernel k, and however often, all other calls are answered the same
abbrev pub Apart : Kernel → Type 0
Apart k =
    (m n m' n' : MachineModel) (h g : List Entry) → Fresh m → Fresh n → MadeAlike m n
    → Run m h m' → Run n g n' → calls (others k h) ≡ calls (others k g) → answers (others k h) ≡ answers (others k g)

-- ---- the pump and the take

-- a pump's count is the size of its set, and the smaller of the number asked for and the number of deliverable lines
abbrev pub PumpCounts : (ℕ → ℕ → ℕ) → Type 0
PumpCounts smaller =
    (m m' : MachineModel) (n c u : ℕ) (s : LineSet) → Step m (pump n) (Ok (arrived c s)) m' → SetOf (Deliverable m.hardware) u
    → (c ≡ size s.bits) × (c ≡ smaller n (size u))

-- the arrivals are the lines that go when up to n lines are taken and ended one after another, and nothing else changes
abbrev pub OneByOne : Type 0
OneByOne = (v w : View) (n s : ℕ) → Sound v → Passes n v s w → Arrivals v n s × (w ≡ cleared v s)

-- what the call of a controller with the relation R answers and leaves is determined by what is told
abbrev pub Determined : {X : Type 0} → (View → X → View → Type 0) → Type 0
Determined {X} R = (v w x : View) (r q : X) → Sound v → R v r w → R v q x → (r ≡ q) × (w ≡ x)

-- what a pump answers is determined by what the hardware tells, and what it leaves by the machine
abbrev pub PumpDetermined : Type 0
PumpDetermined =
    (m k m' k' : MachineModel) (n : ℕ) (a b : Reply) → Sound m.hardware → m.hardware ≡ k.hardware
    → Step m (pump n) a m' → Step k (pump n) b k' → (a ≡ b) × (m ≡ k → m' ≡ k')

-- a line is routed to a kernel exactly when the kernel handles it and every kernel before it passes it on
abbrev pub RoutedMeans : Type 0
RoutedMeans =
    (r : Routes) (k : Kernel) (n : ℕ)
    → Decides (has (routed r k) n) ((has (r.handles k) n ≡ true) × ((j : Kernel) → before j k ≡ true → has (r.passes j) n ≡ true))

-- ---- a stage is a controller by what it tells

-- the call of a controller with the relation R is one of the stage, and no other
abbrev pub ToldThrough : {X : Type 0} → (View → X → View → Type 0) → Type 0
ToldThrough {X} R =
    (s s' : StageModel) (r : X) → (Through R s r s' → R (told s) r (told s'))
    × (R (told s) r (told s') → s'.own.blocked ≡ s.own.blocked → s'.policy ≡ s.policy → s'.level ≡ s.level → s'.stalled ≡ s.stalled → Through R s r s')

-- ---- every list of calls can be run

-- the calls of any list, made one after another from a start, have answers
abbrev pub EveryListRuns : (MachineModel → Type 0) → Type 0
EveryListRuns Start = (m : MachineModel) (l : List Call) → Start m → (h : List Entry) × (m' : MachineModel) × Run m h m' × (calls h ≡ l)

-- ---- all of it, of one run from a fresh start

pub record RunPromises (m : MachineModel) (h : List Entry) (m' : MachineModel) : Type 0 where
  -- it is a run of the machine
  pub ran : Run m h m'
  -- at every place and for every line, no request is lost and none is doubled
  pub in_turn : (p : Place) (n : ℕ) → InTurn (strike (marks m.routes p n h)) (has (view m' p).pending n)
  -- a machine made alike that is given the same calls gives the same answers
  pub alike : (n n' : MachineModel) (g : List Entry) → Fresh n → MadeAlike m n → Run n g n' → calls h ≡ calls g → answers h ≡ answers g
  -- and so do the hardware and the kernels before k, whatever is called of k and of those behind it
  pub undisturbed : (k : Kernel) (n n' : MachineModel) (g : List Entry) → Fresh n → MadeAlike m n → Run n g n'
      → calls (part (λ j. before j k) h) ≡ calls (part (λ j. before j k) g) → answers (part (λ j. before j k) h) ≡ answers (part (λ j. before j k) g)
  -- and so do all others, whatever is called of the root
  pub apart : (n n' : MachineModel) (g : List Entry) → Fresh n → MadeAlike m n → Run n g n' → calls (others root h) ≡ calls (others root g) → answers (others root h) ≡ answers (others root g)

-- every run from a start keeps them
abbrev pub PromisesKept : (MachineModel → Type 0) → Type 0
PromisesKept Start = (m m' : MachineModel) (h : List Entry) → Start m → Routable m → Run m h m' → RunPromises m h m'
