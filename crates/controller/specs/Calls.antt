-- The calls of a controller, each as a relation of the view before, what is given, the answer and the view after.
use Rattle.std.specs.Prelude.{◌≡◌, ℕ, true, false, cond, Some, None, Ok, Err, Option, Result}
use Rattle.lines.specs.Sets.{has, Within}
use Rattle.controller.specs.declared.fault.ControllerFault.{ControllerFault}
use Rattle.controller.specs.declared.fault.ControllerFault.TheVariants.{NoSuchLine, MaskOutside, NothingInService}
use Rattle.controller.specs.declared.fault.Raised.{Raised}
use Rattle.controller.specs.declared.fault.Raised.TheVariants.{New, Merged}
use Rattle.controller.specs.View.{View, First, Deliverable, Serving, ahead, raised, set_masked, taken, ended}

-- raise: the line pends; merged if it did before, else new; a line that the controller lacks is refused
abbrev pub Raises : View → ℕ → Result Raised ControllerFault → View → Type 0
Raises v n (Ok a) w = (has v.lines n ≡ true) × (a ≡ cond (has v.pending n) Merged New) × (w ≡ raised v n)
Raises v n (Err e) w = (has v.lines n ≡ false) × (e ≡ NoSuchLine) × (w ≡ v)

-- mask: the masked set becomes the set given; one with a line that the controller lacks is refused
abbrev pub Masks : View → ℕ → Result (Unit {0}) ControllerFault → View → Type 0
Masks v s (Ok a) w = Within s v.lines × (w ≡ set_masked v s)
Masks v s (Err e) w = (Within s v.lines → ⊥) × (e ≡ MaskOutside) × (w ≡ v)

-- take: the first deliverable line goes into service; none exactly when no line is deliverable
abbrev pub Takes : View → Option ℕ → View → Type 0
Takes v None w = ((n : ℕ) → Deliverable v n → ⊥) × (w ≡ v)
Takes v (Some n) w = First (ahead v) (Deliverable v) n × (w ≡ taken v n)

-- end: the first line in service leaves service; refused when there is none
abbrev pub Ends : View → Result ℕ ControllerFault → View → Type 0
Ends v (Ok n) w = First (ahead v) (Serving v) n × (w ≡ ended v n)
Ends v (Err e) w = (v.in_service ≡ 0) × (e ≡ NothingInService) × (w ≡ v)

-- asking the level of line n, where it is l; a line that the controller lacks is refused
abbrev pub Levels : {L : Type 0} → View → ℕ → L → Result L ControllerFault → Type 0
Levels v n l (Ok a) = (has v.lines n ≡ true) × (a ≡ l)
Levels v n l (Err e) = (has v.lines n ≡ false) × (e ≡ NoSuchLine)
