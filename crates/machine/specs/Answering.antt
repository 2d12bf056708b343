-- The replies of the rules, by what the calls of the code return.
use Rattle.std.specs.Prelude.{◌≡◌, ℕ, Ok, Err, Option, Result}
use Rattle.model.specs.declared.calls.Answer.{Answer}
use Rattle.model.specs.declared.calls.Answer.TheVariants.{Arrived as arrived, Delivered as delivered}
use Rattle.model.specs.declared.fault.At.{At}
use Rattle.model.specs.declared.fault.Fault.{Fault}
use Rattle.model.specs.declared.fault.MachineFault.{MachineFault}
use Rattle.model.specs.Machine.{Reply}
use Rattle.stage.specs.declared.ahead.Hindrance.{Hindrance}
use Rattle.stage.specs.Gates.{waits}
use Rattle.machine.specs.declared.pump.Arrived.{Arrived}

-- a result as a reply: f of what went well, and a refusal as it is
abbrev pub replied : {X : Type 0} → (X → Answer) → Result X MachineFault → Reply
replied f (Ok x) = Ok (f x)
replied f (Err e) = Err e

abbrev pub arrived_of : Arrived → Answer
arrived_of a = arrived a.count a.set

-- next for a kernel behind another
abbrev pub next_reply : Result (Option ℕ) Hindrance → Reply
next_reply (Ok r) = Ok (delivered r)
next_reply (Err h) = Ok (waits h)

-- a call of a stage by its relation R, its refusal as one of the machine's at a kernel
abbrev pub Placed : {S X E T : Type 0} → (E → Fault) → (S → Result X E → S → Type 0) → S → Result X (At T) → S → Type 0
Placed of R s (Ok x) s' = R s (Ok x) s'
Placed of R s (Err a) s' = (e : _) × R s (Err e) s' × (a.fault ≡ of e)
