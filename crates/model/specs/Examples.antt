-- The played examples: each starts fresh.
use Rattle.std.specs.Prelude.{◌≡◌, ℕ, List, [], ◌∷◌, Ok, Result}
use Rattle.std.specs.List.{AllByRecursion}
use Rattle.levels.specs.declared.BsdLevel.{BsdLevel}
use Rattle.levels.specs.declared.BsdLevel.TheVariants.{None as Lowest, Net}
use Rattle.controller.specs.View.{View, fresh}
use Rattle.pair8259.specs.Pair.{pair_lines, pair_order}
use Rattle.vectored.specs.Vectors.{class_order}
use Rattle.spl.specs.declared.fault.LevelFault.{LevelFault}
use Rattle.model.specs.Alone.{Acts, Soft, SoftActs, Leveled, LeveledSets, LeveledActs, Play, Played}
use Rattle.model.specs.Alone.Act.{raise, mask, take, end}
use Rattle.model.specs.Alone.Said.{new, merged, ok, none, line, refused}

-- what is played, and on what
pub data Example : Type 0 where
  on_pair on_vectored optimistic_on_pair : Play → Example
  -- and then the mask below the layer is the set given
  optimistic_on_pair_leaves : Play → ℕ → Example
  -- with the root's policy, once the level is set
  spl_on_vectored : BsdLevel → Play → Example

-- the pair and the vectored controller as they are made
abbrev pub pair : View
pair = fresh pair_lines pair_order

abbrev pub vectored : View
vectored = fresh 0xffff_ffff_ffff_ffff class_order

abbrev pub optimistic : View → Soft
optimistic v = record { below = v; soft = 0; log = 0 }

-- the root's policy at its lowest level, none
abbrev pub spl : View → Leveled
spl v = record { below = v; level = Lowest; own = 0; low = 0 }

-- the rules give the example's answers
abbrev pub Holds : Example → Type 0
Holds (on_pair l) = Played Acts pair l (λ _. Unit {0})
Holds (on_vectored l) = Played Acts vectored l (λ _. Unit {0})
Holds (optimistic_on_pair l) = Played SoftActs (optimistic pair) l (λ _. Unit {0})
Holds (optimistic_on_pair_leaves l set) = Played SoftActs (optimistic pair) l (λ t. t.below.masked ≡ set)
Holds (spl_on_vectored level l) =
    ((s : Leveled) × LeveledSets level (spl vectored) (Ok Lowest) s)
    × ((r : Result BsdLevel LevelFault) (s : Leveled) → LeveledSets level (spl vectored) r s → (r ≡ Ok Lowest) × Played LeveledActs s l (λ _. Unit {0}))

abbrev pub examples : List Example
examples =
    on_pair ((raise 3, new) ∷ (raise 8, new) ∷ (raise 1, new) ∷ (take, line 1) ∷ (end, line 1) ∷ (take, line 8) ∷ (end, line 8) ∷ (take, line 3) ∷ (end, line 3) ∷ [])
    ∷ on_pair ((raise 15, new) ∷ (raise 16, refused 1) ∷ (raise 2, refused 1) ∷ [])
    ∷ on_pair ((raise 3, new) ∷ (take, line 3) ∷ (raise 9, new) ∷ (take, line 9) ∷ (raise 10, new) ∷ (take, none) ∷ [])
    ∷ on_vectored ((raise 17, new) ∷ (take, line 17) ∷ (raise 30, new) ∷ (take, none) ∷ (raise 32, new) ∷ (take, line 32) ∷ [])
    ∷ optimistic_on_pair ((mask 0x10, ok) ∷ (raise 4, new) ∷ (take, none) ∷ (raise 4, merged) ∷ (mask 0, ok) ∷ (take, line 4) ∷ (end, line 4) ∷ (take, none) ∷ [])
    ∷ optimistic_on_pair_leaves ((mask 0x10, ok) ∷ (take, none) ∷ []) 0
    ∷ spl_on_vectored Net ((raise 5, new) ∷ (take, none) ∷ (raise 4, new) ∷ (take, line 4) ∷ [])
    ∷ on_pair ((mask 0xfffb, ok) ∷ (mask 4, refused 2) ∷ [])
    ∷ []

-- all of them hold
abbrev pub ExamplesHold : List Example → Type 0
ExamplesHold l = AllByRecursion Holds l
