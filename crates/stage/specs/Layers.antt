-- A stage made of layers, as the machine sees it.
use Rattle.std.specs.Prelude.{◌≡◌, ℕ, zero, suc, Bool, true, false, cond, not, Some, None, Ok, Err, Option, Result}
use Rattle.lines.specs.Sets.{union, only}
use Rattle.levels.specs.declared.Level as level
use Rattle.controller.specs.declared.interface.Controller as controller
use Rattle.controller.specs.View.{View, set_masked}
use Rattle.spl.specs.declared.policy.Policy as policy
use Rattle.spl.specs.declared.layer.Spl.{Spl}
use Rattle.stall.specs.declared.layer.Stall.{Stall}
use Rattle.model.specs.Stage.{PolicyModel, StageModel, set_level}

-- the set of the lines below k of which the test holds
unfoldable pub set_where : ℕ → (ℕ → Bool) → ℕ
set_where zero f = 0
set_where (suc k) f = union (set_where k f) (cond (f k) (only k) 0)

-- whether the code names a level
abbrev pub names_one : {K : Type 0} → Option K → Bool
names_one (Some l) = true
names_one None = false

-- the number of a code; 0 where there is none
abbrev pub code_number : Option ℕ → ℕ
code_number (Some c) = c
code_number None = 0

-- the lines whose level isn't above the one named; none where no level is named
abbrev pub not_above_named : {K : Type 0} → (ℕ → K) → (K → K → Bool) → Option K → ℕ
not_above_named levels above (Some l) = set_where 64 (λ n. not (above (levels n) l))
not_above_named levels above None = 0

-- a policy by its levels, their order, the lowest, the code of each level and the level that each code names
abbrev pub coded_policy : {K : Type 0} → (ℕ → K) → (K → K → Bool) → K → (K → Option ℕ) → (ℕ → Option K) → PolicyModel
coded_policy levels above least codes named =
    record { names = λ c. names_one (named c); lowest = code_number (codes least); not_above = λ c. not_above_named levels above (named c) }

abbrev pub policy_model : {P K : Type 0} → policy.Ghosts P K → level.Ghosts K → P → PolicyModel
policy_model p k x = coded_policy (p.levels x) k.above (p.least x) (p.codes x) (p.named x)

-- the stage of a controller that tells v, with a mask of its own
abbrev pub staged : View → ℕ → PolicyModel → ℕ → Bool → StageModel
staged v own p c b = record { own = set_masked v own; policy = p; level = c; stalled = b }

module _ {P C K L : Type 0} {p : policy.Ghosts P K} {k : level.Ghosts K} {c : controller.Ghosts C L} {l : level.Ghosts L} where
  -- the stall layer on the spl layer on a controller
  abbrev pub stage_model : Stall (Spl P C K L p k c l) L → StageModel
  stage_model s =
      staged (c.view s.below.below) s.below.own.bits (policy_model p k s.below.policy) (code_number (p.codes s.below.policy s.below.level)) s.stalled

  -- the same, of the layers by themselves
  abbrev pub stage_at : Spl P C K L p k c l → Bool → StageModel
  stage_at t b = stage_model (record { below = t; stalled = b })

-- the level of the stage becomes the one that the code names; a code that names none is refused, and nothing changes
abbrev pub SetsByCode : {E : Type 0} → ℕ → StageModel → Result (Unit {0}) E → StageModel → Type 0
SetsByCode code s (Ok a) s' = (s.policy.names code ≡ true) × (s' ≡ set_level s code)
SetsByCode code s (Err e) s' = (s.policy.names code ≡ false) × (s' ≡ s)
