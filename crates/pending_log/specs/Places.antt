-- The places of the lines in the log.
use Rattle.std.specs.Prelude.{ℕ, Bool, cond, Some, None, Option, nat_lt}
use Rattle.levels.specs.declared.LogPlace.{LogPlace}

-- a line's place is its number
abbrev pub place_of : ℕ → LogPlace
place_of n = record { 0 = n }

-- the smaller is higher
abbrev pub place_order : ℕ → ℕ → Bool
place_order a b = nat_lt a b

-- the first candidate n, if it is above the first line m in service
abbrev pub over_service : Option ℕ → Option ℕ → Option ℕ
over_service None serving = None
over_service (Some n) None = Some n
over_service (Some n) (Some m) = cond (place_order n m) (Some n) None
