-- What a stage means to the kernels behind it, and how a line arrives at one.
use Rattle.std.specs.Prelude.{◌≡◌, ℕ, ◌<◌, ◌⊎◌, Some, None, Ok, Err, Option, Result}
use Rattle.lines.specs.Sets.{union, common, only}
use Rattle.controller.specs.View.{View, First, Deliverable, Serving, ahead, set_pending}
use Rattle.model.specs.declared.calls.Answer.{Answer}
use Rattle.model.specs.declared.calls.Answer.TheVariants.{Held as held, Busy as busy}
use Rattle.model.specs.Arrivals.{cleared}
use Rattle.model.specs.Stage.{StageModel, told, set_own}
use Rattle.stage.specs.declared.ahead.Hindrance.{Hindrance}
use Rattle.stage.specs.declared.ahead.Hindrance.TheVariants.{Held, Busy}

-- the stage blocks all its lines
abbrev pub AllBlocked : StageModel → Type 0
AllBlocked s = (told s).blocked ≡ (told s).lines

-- the stage has a line in service or deliverable
abbrev pub Occupied : StageModel → Type 0
Occupied s = (n : ℕ) × (Serving (told s) n ⊎ Deliverable (told s) n)

-- it holds those behind it, else it has work, else it leaves them alone
abbrev pub Stands : StageModel → Result (Unit {0}) Hindrance → Type 0
Stands s (Err Held) = AllBlocked s
Stands s (Err Busy) = (AllBlocked s → ⊥) × Occupied s
Stands s (Ok u) = (AllBlocked s → ⊥) × (Occupied s → ⊥)

-- the answer of a kernel that has to wait
abbrev pub waits : Hindrance → Answer
waits Held = held
waits Busy = busy

-- one line taken and ended at once
abbrev pub Passed : View → Option ℕ → View → Type 0
Passed v (Some n) w = First (ahead v) (Deliverable v) n × (w ≡ cleared v (only n)) × (n < 64)
Passed v None w = ((n : ℕ) → Deliverable v n → ⊥) × (w ≡ v)

-- line n is pending at the stage if it is one of the lines routed there and the stage has it
abbrev pub reached : StageModel → ℕ → ℕ → StageModel
reached s routed n = set_own s (set_pending s.own (union s.own.pending (common (only n) (common routed s.own.lines))))
