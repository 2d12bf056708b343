-- The optimistic layer: what it tells, and what each call does to its soft mask, its log and the controller below.
use Rattle.std.specs.Prelude.{◌≡◌, ℕ, Bool, true, false, ◌⊎◌, Some, None, Ok, Err, Decides, Option, Result}
use Rattle.lines.specs.Sets.{has, union, common, minus, Within}
use Rattle.controller.specs.declared.fault.ControllerFault.{ControllerFault}
use Rattle.controller.specs.declared.fault.ControllerFault.TheVariants.{MaskOutside}
use Rattle.controller.specs.declared.fault.Raised.{Raised}
use Rattle.controller.specs.declared.fault.Raised.TheVariants.{Merged}
use Rattle.controller.specs.Calls.{Raises}
use Rattle.controller.specs.View.{View, Deliverable, ahead, raised, taken, set_pending, set_masked}

-- what the layer tells over a controller: masked is the soft mask, pending is the log with what is pending below
abbrev pub logged : View → ℕ → ℕ → View
logged v soft log = set_masked (set_pending v (union log v.pending)) soft

-- what the layer keeps: the mask below is exactly the log, and the log lies within the soft mask, which lies within the lines
pub record Logging (v : View) (soft log : ℕ) : Type 0 where
  pub mask : v.masked ≡ log
  pub inside : Within log soft
  pub soft_in : Within soft v.lines

-- what a raise does below: one of a logged line merges, and it is left open whether the line is latched below too; any other is made below
abbrev pub Latches : Bool → View → ℕ → Result Raised ControllerFault → View → Type 0
Latches true v n r w = (r ≡ Ok Merged) × ((w ≡ v) ⊎ (w ≡ raised v n))
Latches false v n r w = Raises v n r w

-- what is below once a mask has freed the logged lines outside the set: they are pending there, and the mask is the rest of the log
abbrev pub freed : View → ℕ → ℕ → View
freed v log set = set_masked (set_pending v (union v.pending (minus log set))) (common log set)

-- a mask: the set becomes the soft mask and frees the logged lines outside it; one with a line that the controller lacks is refused,
-- and nothing changes
abbrev pub Frees : View → ℕ → ℕ → Result (Unit {0}) ControllerFault → ℕ → ℕ → View → Type 0 → Type 0
Frees v log set (Ok a) soft' log' w unchanged = Within set v.lines × (soft' ≡ set) × (log' ≡ common log set) × (w ≡ freed v log set)
Frees v log set (Err e) soft' log' w unchanged = (Within set v.lines → ⊥) × (e ≡ MaskOutside) × unchanged

-- the lines that a take puts into the log: in the soft mask, deliverable below and ahead of the answer, all such if it is none
abbrev pub SetAside : View → ℕ → Option ℕ → ℕ → Type 0
SetAside v soft None m = (has soft m ≡ true) × Deliverable v m
SetAside v soft (Some n) m = (has soft m ≡ true) × Deliverable v m × (ahead v m n ≡ true)

-- the log after a take: the lines of the log before, and those set aside
abbrev pub Logs : View → ℕ → ℕ → Option ℕ → ℕ → Type 0
Logs v soft log r log' = (m : ℕ) → Decides (has log' m) ((has log m ≡ true) ⊎ SetAside v soft r m)

-- what is below once the lines that log' has beyond log are set aside: they are no longer pending there, and the mask is log'
abbrev pub aside : View → ℕ → ℕ → View
aside v log log' = set_masked (set_pending v (minus v.pending (minus log' log))) log'

-- what a take leaves below
abbrev pub below_after : View → ℕ → Option ℕ → ℕ → View
below_after v log None log' = aside v log log'
below_after v log (Some n) log' = taken (aside v log log') n
