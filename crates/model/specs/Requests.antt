-- The requests of one line at one place, as a run shows them: how they come and go.
use Rattle.std.specs.Prelude.{◌≡◌, ℕ, Bool, true, false, ◌&&◌, List, [], ◌∷◌, Some, None, Option, Ok, Err, ◌==◌}
use Rattle.lines.specs.Sets.{has}
use Rattle.model.specs.declared.calls.Place.{Place}
use Rattle.model.specs.declared.calls.Place.TheVariants.{Hardware as hardware, Kernel as kernel}
use Rattle.model.specs.declared.calls.Call.{Call}
use Rattle.model.specs.declared.calls.Call.TheVariants.{Raise as raise, MaskHardware as mask_hardware, Pump as pump, Next as next, To as to, Ask as ask}
use Rattle.model.specs.declared.calls.Answer.TheVariants.{Raised as raised, Masked as mask_set, Arrived as arrived, Delivered as delivered, Held as held, Busy as busy, Ended as ended, WasStalled as was_stalled, WasAtLevel as was_at_level, Told as set_told}
use Rattle.model.specs.Machine.{Routes, Reply, routed, same}
use Rattle.model.specs.Run.{Entry}

-- a request comes to a place (an accepted raise at the hardware, an arrival routed to a kernel), and goes from it (an arrival, a delivery)
pub data Mark : Type 0 where
  comes goes : Mark

-- a raise answered new or merged
abbrev pub accepted : Reply → Bool
accepted (Ok (raised r)) = true
accepted (Ok mask_set) = false
accepted (Ok (arrived c s)) = false
accepted (Ok (delivered r)) = false
accepted (Ok held) = false
accepted (Ok busy) = false
accepted (Ok (ended n)) = false
accepted (Ok (was_stalled b)) = false
accepted (Ok (was_at_level c)) = false
accepted (Ok (set_told s)) = false
accepted (Err e) = false

-- the set of a pump's arrivals
abbrev pub arrivals : Reply → ℕ
arrivals (Ok (raised r)) = 0
arrivals (Ok mask_set) = 0
arrivals (Ok (arrived c s)) = s.bits
arrivals (Ok (delivered r)) = 0
arrivals (Ok held) = 0
arrivals (Ok busy) = 0
arrivals (Ok (ended n)) = 0
arrivals (Ok (was_stalled b)) = 0
arrivals (Ok (was_at_level c)) = 0
arrivals (Ok (set_told s)) = 0
arrivals (Err e) = 0

-- whether line n was found
abbrev pub found : Option ℕ → ℕ → Bool
found (Some k) n = n == k
found None n = false

-- whether line n is delivered
abbrev pub delivers : Reply → ℕ → Bool
delivers (Ok (raised r)) n = false
delivers (Ok mask_set) n = false
delivers (Ok (arrived c s)) n = false
delivers (Ok (delivered r)) n = found r n
delivers (Ok held) n = false
delivers (Ok busy) n = false
delivers (Ok (ended k)) n = false
delivers (Ok (was_stalled b)) n = false
delivers (Ok (was_at_level c)) n = false
delivers (Ok (set_told s)) n = false
delivers (Err e) n = false

abbrev pub marked : Bool → Mark → Option Mark
marked true x = Some x
marked false x = None

-- what a call and its answer say of the requests of line n at a place
abbrev pub mark : Routes → Place → ℕ → Call → Reply → Option Mark
mark r hardware n (raise k) a = marked (n == k && accepted a) comes
mark r hardware n (mask_hardware s) a = None
mark r hardware n (pump c) a = marked (has (arrivals a) n) goes
mark r hardware n (next j) a = None
mark r hardware n (to j c) a = None
mark r hardware n (ask p q) a = None
mark r (kernel k) n (raise i) a = None
mark r (kernel k) n (mask_hardware s) a = None
mark r (kernel k) n (pump c) a = marked (has (arrivals a) n && has (routed r k) n) comes
mark r (kernel k) n (next j) a = marked (same k j && delivers a n) goes
mark r (kernel k) n (to j c) a = None
mark r (kernel k) n (ask p q) a = None

abbrev pub noting : Option Mark → List Mark → List Mark
noting (Some x) l = x ∷ l
noting None l = l

-- the marks of a run, in the order of its calls
abbrev pub marks : Routes → Place → ℕ → List Entry → List Mark
marks r p n [] = []
marks r p n (e ∷ h) = noting (mark r p n e.call e.answer) (marks r p n h)

-- each coming that follows another with no going between is struck; the flag says that such a coming stands before
abbrev pub struck : Bool → List Mark → List Mark
struck b [] = []
struck true (comes ∷ l) = struck true l
struck false (comes ∷ l) = comes ∷ struck true l
struck true (goes ∷ l) = goes ∷ struck false l
struck false (goes ∷ l) = goes ∷ struck false l

abbrev pub strike : List Mark → List Mark
strike l = struck false l

abbrev pub other : Mark → Mark
other comes = goes
other goes = comes

-- the marks alternate, x first
abbrev pub Alternate : Mark → List Mark → Type 0
Alternate x [] = Unit {0}
Alternate x (y ∷ l) = (y ≡ x) × Alternate (other x) l

abbrev pub last : List Mark → Option Mark
last [] = None
last (x ∷ []) = Some x
last (x ∷ (y ∷ l)) = last (y ∷ l)

-- comings and goings alternate, a coming first, and a coming is last exactly when the line pends
pub record InTurn (l : List Mark) (pends : Bool) : Type 0 where
  pub alternate : Alternate comes l
  pub standing : pends ≡ true → last l ≡ Some comes
  pub stands : last l ≡ Some comes → pends ≡ true
