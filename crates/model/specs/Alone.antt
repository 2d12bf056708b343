-- A controller by itself, with or without a layer on it: its calls and their answers, one after another.
use Rattle.std.specs.Prelude.{◌≡◌, ℕ, Bool, List, [], ◌∷◌, map, Some, None, Ok, Err, Option, Result, nat_lt}
use Rattle.lines.specs.Sets.{has, union}
use Rattle.levels.specs.declared.BsdLevel.{BsdLevel}
use Rattle.levels.specs.Kinds.{code}
use Rattle.controller.specs.declared.fault.ControllerFault.{ControllerFault}
use Rattle.controller.specs.declared.fault.Raised.{Raised}
use Rattle.controller.specs.declared.fault.Raised.TheVariants.{New, Merged}
use Rattle.controller.specs.Faults.{fault_number}
use Rattle.controller.specs.View.{View, set_masked}
use Rattle.controller.specs.Calls.{Raises, Masks, Takes, Ends}
use Rattle.optimistic.specs.Logging.{logged, Latches, Frees, Logs, below_after}
use Rattle.spl.specs.declared.fault.LevelFault.{LevelFault}
use Rattle.spl.specs.Blocking.{spl_view, Blocking, MasksOwn}
use Rattle.spl.specs.Codes.{SetsLevel}
use Rattle.spl.specs.Root.{root_level, root_code}
use Rattle.model.specs.Machine.{Answered}

-- the calls
pub data Act : Type 0 where
  raise mask : ℕ → Act
  take end : Act

-- what they answer; a refusal by its number
pub data Said : Type 0 where
  new merged ok none : Said
  line refused : ℕ → Said

abbrev pub raise_said : Result Raised ControllerFault → Said
raise_said (Ok New) = new
raise_said (Ok Merged) = merged
raise_said (Err e) = refused (fault_number e)

abbrev pub mask_said : Result (Unit {0}) ControllerFault → Said
mask_said (Ok u) = ok
mask_said (Err e) = refused (fault_number e)

abbrev pub take_said : Option ℕ → Said
take_said (Some n) = line n
take_said None = none

abbrev pub end_said : Result ℕ ControllerFault → Said
end_said (Ok n) = line n
end_said (Err e) = refused (fault_number e)

-- ---- a controller by what it tells

abbrev pub Acts : View → Act → Said → View → Type 0
Acts v (raise n) a w = Answered (λ x. Raises x n) raise_said v a w
Acts v (mask s) a w = Answered (λ x. Masks x s) mask_said v a w
Acts v take a w = Answered Takes take_said v a w
Acts v end a w = Answered Ends end_said v a w

-- ---- the optimistic layer by what is below it, its soft mask and its log

pub record Soft : Type 0 where
  pub below : View
  pub soft : ℕ
  pub log : ℕ

-- what the layer tells
abbrev pub soft_told : Soft → View
soft_told s = logged s.below s.soft s.log

abbrev pub SoftRaises : ℕ → Soft → Result Raised ControllerFault → Soft → Type 0
SoftRaises n s r t =
    Raises (soft_told s) n r (soft_told t) × (t.soft ≡ s.soft) × (t.log ≡ s.log) × Latches (has s.log n) s.below n r t.below

abbrev pub SoftMasks : ℕ → Soft → Result (Unit {0}) ControllerFault → Soft → Type 0
SoftMasks set s r t = Masks (soft_told s) set r (soft_told t) × Frees s.below s.log set r t.soft t.log t.below (t ≡ s)

abbrev pub SoftTakes : Soft → Option ℕ → Soft → Type 0
SoftTakes s r t =
    Takes (soft_told s) r (soft_told t) × (t.soft ≡ s.soft) × Logs s.below s.soft s.log r t.log × (t.below ≡ below_after s.below s.log r t.log)

abbrev pub SoftEnds : Soft → Result ℕ ControllerFault → Soft → Type 0
SoftEnds s r t = Ends (soft_told s) r (soft_told t) × (t.soft ≡ s.soft) × (t.log ≡ s.log) × Ends s.below r t.below

abbrev pub SoftActs : Soft → Act → Said → Soft → Type 0
SoftActs s (raise n) a t = Answered (SoftRaises n) raise_said s a t
SoftActs s (mask set) a t = Answered (SoftMasks set) mask_said s a t
SoftActs s take a t = Answered SoftTakes take_said s a t
SoftActs s end a t = Answered SoftEnds end_said s a t

-- ---- the spl layer with the root's policy, by what is below it, its level, its own mask and the lines that the level blocks

pub record Leveled : Type 0 where
  pub below : View
  pub level : BsdLevel
  pub own : ℕ
  pub low : ℕ

-- what the layer tells
abbrev pub leveled_told : Leveled → View
leveled_told s = spl_view s.below s.own s.low

-- whether the level of line n is above the current level
abbrev pub over : Leveled → ℕ → Bool
over s n = nat_lt (code s.level) (code (root_level n))

abbrev pub LeveledSameSettings : Leveled → Leveled → Type 0
LeveledSameSettings s t = (t.level ≡ s.level) × (t.own ≡ s.own) × (t.low ≡ s.low)

abbrev pub LeveledSets : BsdLevel → Leveled → Result BsdLevel LevelFault → Leveled → Type 0
LeveledSets given s r t =
    SetsLevel root_code s.level given r t.level (t ≡ s) × (t.own ≡ s.own) × (t.below ≡ set_masked s.below (union s.own t.low))
    × Blocking t.below (over t) t.own t.low

abbrev pub LeveledRaises : ℕ → Leveled → Result Raised ControllerFault → Leveled → Type 0
LeveledRaises n s r t = Raises (leveled_told s) n r (leveled_told t) × LeveledSameSettings s t × Raises s.below n r t.below

abbrev pub LeveledMasks : ℕ → Leveled → Result (Unit {0}) ControllerFault → Leveled → Type 0
LeveledMasks set s r t =
    Masks (leveled_told s) set r (leveled_told t) × (t.level ≡ s.level) × (t.low ≡ s.low) × MasksOwn s.below s.low set r (t.own ≡ set) (t ≡ s) t.below

abbrev pub LeveledTakes : Leveled → Option ℕ → Leveled → Type 0
LeveledTakes s r t = Takes (leveled_told s) r (leveled_told t) × LeveledSameSettings s t × Takes s.below r t.below

abbrev pub LeveledEnds : Leveled → Result ℕ ControllerFault → Leveled → Type 0
LeveledEnds s r t = Ends (leveled_told s) r (leveled_told t) × LeveledSameSettings s t × Ends s.below r t.below

abbrev pub LeveledActs : Leveled → Act → Said → Leveled → Type 0
LeveledActs s (raise n) a t = Answered (LeveledRaises n) raise_said s a t
LeveledActs s (mask set) a t = Answered (LeveledMasks set) mask_said s a t
LeveledActs s take a t = Answered LeveledTakes take_said s a t
LeveledActs s end a t = Answered LeveledEnds end_said s a t

-- ---- playing

-- calls with their answers
abbrev pub Play : Type 0
Play = List (Act × Said)

abbrev pub acts : Play → List Act
acts l = map (λ x. x.0) l

abbrev pub said : Play → List Said
said l = map (λ x. x.1) l

-- the calls of l, answered as it says one after another, lead from s to t
abbrev pub Plays : {S : Type 0} → (S → Act → Said → S → Type 0) → S → Play → S → Type 0
Plays Rule s [] t = t ≡ s
Plays {S} Rule s (x ∷ l) t = (u : S) × Rule s x.0 x.1 u × Plays Rule u l t

-- under the rule the calls of l from s have just the answers that l says: they can be given, and no others can; what they leave is as `Left` says
pub record Played {S : Type 0} (Rule : S → Act → Said → S → Type 0) (s : S) (l : Play) (Left : S → Type 0) : Type 0 where
  pub possible : (t : S) × Plays Rule s l t
  pub only : (h : Play) (t : S) → Plays Rule s h t → acts h ≡ acts l → said h ≡ said l
  pub left : (t : S) → Plays Rule s l t → Left t
