-- A kernel's stage: a controller with a mask of its own, under a level and a stall bit.
use Rattle.std.specs.Prelude.{◌≡◌, ℕ, Bool, true, false, cond, Ok, Err, Result}
use Rattle.lines.specs.Sets.{union, common}
use Rattle.controller.specs.View.{View, set_blocked}
use Rattle.spl.specs.declared.fault.LevelFault.{LevelFault}
use Rattle.spl.specs.declared.fault.LevelFault.TheVariants.{NoSuchLevel}

-- which codes name a level, the code of the lowest, and for each code the lines whose level isn't above the level that it names
pub record PolicyModel : Type 0 where
  pub names : ℕ → Bool
  pub lowest : ℕ
  pub not_above : ℕ → ℕ

-- `own` is what the stage tells but for the lines that it blocks itself; `level` is a code
pub record StageModel : Type 0 where
  pub own : View
  pub policy : PolicyModel
  pub level : ℕ
  pub stalled : Bool

-- what the stage blocks: all its lines while it is stalled, else what is blocked below and its lines that aren't above the level
abbrev pub blocks : StageModel → ℕ
blocks s = cond s.stalled s.own.lines (union s.own.blocked (common s.own.lines (s.policy.not_above s.level)))

-- what the stage tells
abbrev pub told : StageModel → View
told s = set_blocked s.own (blocks s)

-- the stage with one part changed
abbrev pub set_own : StageModel → View → StageModel
set_own s v = record { own = v; policy = s.policy; level = s.level; stalled = s.stalled }

abbrev pub set_level : StageModel → ℕ → StageModel
set_level s c = record { own = s.own; policy = s.policy; level = c; stalled = s.stalled }

abbrev pub set_stalled : StageModel → Bool → StageModel
set_stalled s b = record { own = s.own; policy = s.policy; level = s.level; stalled = b }

-- the stage that tells w: what is blocked below, the level and the stall bit are as they were
abbrev pub telling : StageModel → View → StageModel
telling s w = set_own s (set_blocked w s.own.blocked)

-- a controller's call, by its relation R, made on what the stage tells
abbrev pub Through : {X : Type 0} → (View → X → View → Type 0) → StageModel → X → StageModel → Type 0
Through R s r s' = (w : View) × R (told s) r w × (s' ≡ telling s w)

-- stall and unstall set the bit, and answer the former one
abbrev pub SetsStalled : Bool → StageModel → Bool → StageModel → Type 0
SetsStalled b s r s' = (r ≡ s.stalled) × (s' ≡ set_stalled s b)

-- set level sets the level that the code names, and answers the former one's code; a code that names none is refused
abbrev pub SetsStageLevel : ℕ → StageModel → Result ℕ LevelFault → StageModel → Type 0
SetsStageLevel c s (Ok r) s' = (s.policy.names c ≡ true) × (r ≡ s.level) × (s' ≡ set_level s c)
SetsStageLevel c s (Err e) s' = (s.policy.names c ≡ false) × (e ≡ NoSuchLevel) × (s' ≡ s)
