-- What a stack over lent places holds, and what its calls answer and leave: s is the stack before a call, and t after it.
use Rattle.std.specs.Prelude.{◌≡◌, ℕ, ◌+◌, ◌-◌, ◌<◌, List, length, take, Some, None, Ok, Err, Option, Result, slice_index_or, slice_set}
use Rattle.level_stack.specs.declared.fault.StackFault.{StackFault}
use Rattle.level_stack.specs.declared.fault.StackFault.TheVariants.{Full, Empty}
use Rattle.level_stack.specs.declared.stack.LevelStack.{LevelStack}

-- the levels of a stack, the first pushed first
abbrev pub levels_of : {L : Type 0} → LevelStack L → List L
levels_of s = take s.used s.places.now

-- the places are those lent to the stack before, and go back to the same lender
abbrev pub SamePlaces : {L : Type 0} → LevelStack L → LevelStack L → Type 0
SamePlaces s t = t.places.ghost_name ≡ s.places.ghost_name

-- A push writes the first free place; it is refused, and all stays, exactly when there is none.
abbrev pub Pushes : {L : Type 0} → LevelStack L → L → Result (Unit {0}) StackFault → LevelStack L → Type 0
Pushes s level (Ok u) t =
    (s.used < length s.places.now) × (t.places.now ≡ slice_set s.places.now s.used level) × (t.used ≡ s.used + 1)
Pushes s level (Err e) t = (s.used ≡ length s.places.now) × (e ≡ Full) × (t.places.now ≡ s.places.now) × (t.used ≡ s.used)

-- The level pushed last is the one in the last used place.
abbrev pub Last : {L : Type 0} → List L → ℕ → Option L → Type 0
Last xs n (Some level) = (0 < n) × (level ≡ slice_index_or xs (n - 1) level)
Last xs n None = n ≡ 0

-- A pop answers the level in the last used place, which is free then, and writes nothing; it is refused exactly when no place is used.
abbrev pub Pops : {L : Type 0} → LevelStack L → Result L StackFault → LevelStack L → Type 0
Pops s (Ok level) t = Last s.places.now s.used (Some level) × (t.places.now ≡ s.places.now) × (t.used ≡ s.used - 1)
Pops s (Err e) t = (s.used ≡ 0) × (e ≡ Empty) × (t.places.now ≡ s.places.now) × (t.used ≡ s.used)
