-- The kinds of levels, each by its order.
use Rattle.std.specs.Prelude.{◌≡◌, ℕ, ◌≤◌, Bool, ◌&&◌, ◌||◌, Some, Option, Result, IfErr, ◌==◌, nat_lt}
use Rattle.std.specs.Result.{result_ok}
use Rattle.std.specs.declared.option.Option.TheVariants as option
use Rattle.levels.specs.declared.BsdLevel.{BsdLevel}
use Rattle.levels.specs.declared.UnknownLevel.{UnknownLevel}
use Rattle.levels.specs.declared.BsdLevel.TheVariants.{None, SoftClock, SoftNet, Bio, Net, Tty, Clock, High}

-- the code of a BSD level, lowest first
abbrev pub code : BsdLevel → ℕ
code None = 0
code SoftClock = 1
code SoftNet = 2
code Bio = 3
code Net = 4
code Tty = 5
code Clock = 6
code High = 7

-- the level that has the code c, or none: the codes are 0 to 7
abbrev pub Coded : ℕ → Option BsdLevel → Type 0
Coded c (Some l) = code l ≡ c
Coded c option.None = 8 ≤ c

-- asking for the level that has the code c: it is answered, or c itself is refused
abbrev pub Decodes : ℕ → Result BsdLevel UnknownLevel → Type 0
Decodes c r = Coded c (result_ok r) × IfErr r (λ e. e.0 ≡ c)

-- of two inputs of a pair of chips (m, s) is higher than (m', s'): m is smaller, or it is the same and s is smaller
abbrev pub pair_above : ℕ → ℕ → ℕ → ℕ → Bool
pair_above m s m' s' = nat_lt m m' || (m == m' && nat_lt s s')
