-- A burst of requests: what raising its lines one after another answers and leaves, and what serving them does.
use Rattle.std.specs.Prelude.{◌≡◌, ℕ, ◌<◌, true, cond, List, [], ◌∷◌, length, take, Ok, Err, Decides, Result, slice_index, slice_index_or}
use Rattle.lines.specs.Sets.{has, union, common, minus, only}
use Rattle.controller.specs.declared.fault.ControllerFault.{ControllerFault}
use Rattle.controller.specs.declared.fault.ControllerFault.TheVariants.{NoSuchLine}
use Rattle.controller.specs.declared.fault.Raised.{Raised}
use Rattle.controller.specs.declared.fault.Raised.TheVariants.{New, Merged}
use Rattle.controller.specs.View.{View, Deliverable, ahead, set_pending, fresh}

-- the set of the numbers of a list
abbrev pub set_of : List ℕ → ℕ
set_of [] = 0
set_of (n ∷ ns) = union (only n) (set_of ns)

-- a line that the controller lacks is refused; one that was pending before, or that the burst named earlier, merges; any other is new
abbrev pub answer : View → List ℕ → ℕ → Result Raised ControllerFault
answer v earlier n = cond (has v.lines n) (Ok (cond (has (union v.pending (set_of earlier)) n) Merged New)) (Err NoSuchLine)

-- the answers to the burst, one for each request, in their order
pub record Answers (v : View) (burst : List ℕ) (answers : List (Result Raised ControllerFault)) : Type 0 where
  pub long : length answers ≡ length burst
  pub each : (i : ℕ) (d : Result Raised ControllerFault) → i < length burst → slice_index_or answers i d ≡ answer v (take i burst) (slice_index burst i)

-- the controller after the burst: those of its lines that the burst names pend too
abbrev pub raised_all : View → List ℕ → View
raised_all v burst = set_pending v (union v.pending (common (set_of burst) v.lines))

-- the lines of the list are served: they are the deliverable lines, all of them, each once and in the order of "first", and pend no longer
pub record Serves (v : View) (served : List ℕ) (w : View) : Type 0 where
  pub all : (n : ℕ) → Decides (has (set_of served) n) (Deliverable v n)
  pub in_order : (i j : ℕ) → i < j → j < length served → ahead v (slice_index served i) (slice_index served j) ≡ true
  pub leaves : w ≡ set_pending v (minus v.pending (set_of served))

-- what a burst led to on a controller that told v before and tells w after
pub record Reports (v : View) (burst : List ℕ) (answers : List (Result Raised ControllerFault)) (served : List ℕ) (w : View) : Type 0 where
  pub told : Answers v burst answers
  pub serves : Serves (raised_all v burst) served w
  -- on a controller as it is made the lines served are the accepted ones, and nothing is left
  pub from_fresh : v ≡ fresh v.lines v.above → (set_of served ≡ common (set_of burst) v.lines) × (w ≡ v)
