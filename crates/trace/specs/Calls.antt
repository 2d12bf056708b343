-- What a command of a running machine answers and leaves.
use Rattle.std.specs.Prelude.{◌≡◌, ℕ, ◌+◌, ◌-◌, ◌<◌, true, List, length, Some, None, Ok, Err, Option, Result, ◌≢◌, slice_set}
use Rattle.spl.specs.declared.fault.LevelFault.TheVariants.{NoSuchLevel}
use Rattle.model.specs.declared.calls.Kernel.{Kernel}
use Rattle.model.specs.declared.calls.Place.TheVariants.{Kernel as kernel}
use Rattle.model.specs.declared.calls.StageCall.TheVariants.{SetLevel as set_level}
use Rattle.model.specs.declared.calls.Call.{Call}
use Rattle.model.specs.declared.calls.Call.TheVariants.{To as to}
use Rattle.model.specs.declared.calls.Answer.TheVariants as answer
use Rattle.model.specs.Machine.{MachineModel, Step}
use Rattle.model.specs.Stage.{StageModel}
use Rattle.stage.specs.Layers.{names_one}
use Rattle.model.specs.declared.fault.Fault.TheVariants.{Level}
use Rattle.model.specs.declared.fault.MachineFault.{MachineFault}
use Rattle.level_stack.specs.declared.fault.StackFault.TheVariants.{Full, Empty}
use Rattle.level_stack.specs.Stacks.{Last, SamePlaces}
use Rattle.level_stack.specs.declared.stack.LevelStack.{LevelStack}
use Rattle.trace.specs.declared.saved.Saved.{Saved as SavedLevels}
use Rattle.listing.specs.declared.listed.Listed.{Listed}
use Rattle.listing.specs.declared.listed.Listed.TheVariants.{Accepted, Answered, Restored}
use Rattle.listing.specs.declared.listed.TraceFault.{TraceFault}
use Rattle.listing.specs.declared.listed.TraceFault.TheVariants.{Text, Machine, Saved}

-- the saved levels of a kernel: the places of its stack, and how many of them are used
pub record Levels (L : Type 0) : Type 0 where
  pub places : List L
  pub used : ℕ

-- the levels that a stack over lent places keeps
abbrev pub levels_in : {L : Type 0} → LevelStack L → Levels L
levels_in s = record { places = s.places.now; used = s.used }

-- the stacks of both kernels stand over the places that they stood over
abbrev pub SameStacks : SavedLevels → SavedLevels → Type 0
SameStacks s t = SamePlaces s.head t.head × SamePlaces s.root t.root

-- a call of the machine: its answer is listed, or its refusal
abbrev pub Called : MachineModel → Call → Result Listed TraceFault → MachineModel → Type 0
Called m c (Ok Accepted) m' = ⊥
Called m c (Ok (Answered a)) m' = Step m c (Ok a) m'
Called m c (Ok (Restored n)) m' = ⊥
Called m c (Err (Text e)) m' = ⊥
Called m c (Err (Machine e)) m' = Step m c (Err e) m'
Called m c (Err (Saved e k)) m' = ⊥

-- the level is one that the policy does not name
abbrev pub unknown_level : Kernel → MachineFault
unknown_level k = record { fault = Level NoSuchLevel; place = kernel k }

-- a stage has the levels that `named` gives to codes, and is at the one of its code
pub record Linked {L : Type 0} (named : ℕ → Option L) (codes : L → Option ℕ) (s : StageModel) : Type 0 where
  pub names : (c : ℕ) → s.policy.names c ≡ names_one (named c)
  pub current : (l : L) × (named s.level ≡ Some l) × (codes l ≡ Some s.level)

-- Setting the level that the code c names, while the former level is saved: an unknown code is refused first, then a full stack.
-- `named` and `codes` turn codes into levels and back.
abbrev pub Saves : {L : Type 0} → (ℕ → Option L) → (L → Option ℕ) → Kernel → ℕ → MachineModel → Levels L → Result Listed TraceFault → MachineModel → Levels L → Type 0
Saves named codes k c m s (Ok Accepted) m' s' = ⊥
Saves named codes k c m s (Ok (Answered a)) m' s' =
    (f : ℕ) × (l : _) × (a ≡ answer.WasAtLevel f) × Step m (to k (set_level c)) (Ok a) m' × (codes l ≡ Some f) × (s.used < length s.places)
    × (s' ≡ record { places = slice_set s.places s.used l; used = s.used + 1 })
Saves named codes k c m s (Ok (Restored n)) m' s' = ⊥
Saves named codes k c m s (Err (Text e)) m' s' = ⊥
Saves named codes k c m s (Err (Machine e)) m' s' = (e ≡ unknown_level k) × (named c ≡ None) × (m' ≡ m) × (s' ≡ s)
Saves named codes k c m s (Err (Saved e j)) m' s' =
    (e ≡ Full) × (j ≡ k) × (named c ≢ None) × (s.used ≡ length s.places) × (m' ≡ m) × (s' ≡ s)

-- the code of a level, which names it; none of a level that cannot be set
abbrev pub Settable : {L : Type 0} → (ℕ → Option L) → (L → Option ℕ) → Kernel → L → Result ℕ TraceFault → Type 0
Settable named codes k l (Ok c) = (codes l ≡ Some c) × (names_one (named c) ≡ true)
Settable named codes k l (Err e) = (codes l ≡ None) × (e ≡ Machine (unknown_level k))

-- setting the level that the code c names answers that code
abbrev pub SetsAgain : Kernel → ℕ → MachineModel → Result ℕ TraceFault → MachineModel → Type 0
SetsAgain k c m (Ok n) m' = (n ≡ c) × ((f : ℕ) × Step m (to k (set_level c)) (Ok (answer.WasAtLevel f)) m')
SetsAgain k c m (Err (Text e)) m' = ⊥
SetsAgain k c m (Err (Machine e)) m' = Step m (to k (set_level c)) (Err e) m'
SetsAgain k c m (Err (Saved e j)) m' = ⊥

-- the stack once its last used place is free
abbrev pub without_last : {L : Type 0} → Levels L → Levels L
without_last s = record { places = s.places; used = s.used - 1 }

-- Setting the level saved last, which leaves the stack: an empty stack is refused, and so is a level that cannot be set.
abbrev pub Restores : {L : Type 0} → (L → Option ℕ) → Kernel → MachineModel → Levels L → Result Listed TraceFault → MachineModel → Levels L → Type 0
Restores codes k m s (Ok Accepted) m' s' = ⊥
Restores codes k m s (Ok (Answered a)) m' s' = ⊥
Restores codes k m s (Ok (Restored c)) m' s' =
    (l : _) × (f : ℕ) × Last s.places s.used (Some l) × (codes l ≡ Some c) × Step m (to k (set_level c)) (Ok (answer.WasAtLevel f)) m'
    × (s' ≡ without_last s)
Restores codes k m s (Err (Text e)) m' s' = ⊥
Restores codes k m s (Err (Machine e)) m' s' =
    (l : _) × Last s.places s.used (Some l) × (codes l ≡ None) × (e ≡ unknown_level k) × (m' ≡ m) × (s' ≡ s)
Restores codes k m s (Err (Saved e j)) m' s' = (e ≡ Empty) × (j ≡ k) × (s.used ≡ 0) × (m' ≡ m) × (s' ≡ s)
