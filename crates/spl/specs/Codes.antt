-- Codes of levels, and setting a level.
use Rattle.std.specs.Prelude.{◌≡◌, ℕ, Some, None, Ok, Err, Option, Result, ◌≢◌}
use Rattle.std.specs.Option.{unwrap_or}
use Rattle.std.specs.Coded.{Coded-set, coded_option, coded_ℕ}
use Rattle.std.proofs.Common.{sym, ap, ◌∙◌}
use mathlib.Core.HLevel.{Σ_prop_path}
use Rattle.spl.specs.declared.fault.LevelFault.{LevelFault}
use Rattle.spl.specs.declared.fault.LevelFault.TheVariants.{NoSuchLevel}

-- the level can be set: it has a code
abbrev pub Settable : {K : Type 0} → (K → Option ℕ) → K → Type 0
Settable codes l = (c : ℕ) × (codes l ≡ Some c)

-- a level has one code
pub settable_prop : {K : Type 0} (codes : K → Option ℕ) (l : K) → IsProp (Settable codes l)
settable_prop codes l = λ a b. Σ_prop_path (λ c. Coded-set (coded_option coded_ℕ) (codes l) (Some c)) (ap (λ o. unwrap_or o 0) (sym a.1 ∙ b.1))

-- the level that has the code c, or none since no level has it
abbrev pub Decodes : {K : Type 0} → (K → Option ℕ) → ℕ → Option K → Type 0
Decodes codes c (Some l) = codes l ≡ Some c
Decodes codes c None = (l : _) → codes l ≢ Some c

-- set level: the level becomes the one given, and the former one is the answer; one without a code is refused, and nothing changes
abbrev pub SetsLevel : {K : Type 0} → (K → Option ℕ) → K → K → Result K LevelFault → K → Type 0 → Type 0
SetsLevel codes former given (Ok a) level unchanged = Settable codes given × (a ≡ former) × (level ≡ given)
SetsLevel codes former given (Err e) level unchanged = (codes given ≡ None) × (e ≡ NoSuchLevel) × unchanged
