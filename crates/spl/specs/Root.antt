-- The root kernel's policy: BSD levels.
use Rattle.std.specs.Prelude.{ℕ, zero, suc, Bool, cond, ◌&&◌, ◌||◌, Some, Option, ◌==◌, nat_le}
use Rattle.std.specs.declared.option.Option.TheVariants as option
use Rattle.levels.specs.declared.BsdLevel.{BsdLevel}
use Rattle.levels.specs.declared.BsdLevel.TheVariants.{None, SoftClock, SoftNet, Bio, Net, Tty, Clock, High}
use Rattle.levels.specs.Kinds.{code}

-- line n is one of a to b
abbrev pub among : ℕ → ℕ → ℕ → Bool
among a b n = nat_le a n && nat_le n b

abbrev pub clock_line : ℕ → Bool
clock_line n = n == 0 || n == 8

abbrev pub tty_line : ℕ → Bool
tty_line n = among 1 4 n || n == 7 || among 12 13 n

abbrev pub net_line : ℕ → Bool
net_line n = n == 5 || among 9 11 n || among 16 31 n

abbrev pub bio_line : ℕ → Bool
bio_line n = n == 6 || among 14 15 n || among 32 47 n

abbrev pub softnet_line : ℕ → Bool
softnet_line n = among 48 55 n

-- the level of each line; the lines 56 to 63 are softclock lines, and so is every number past them
abbrev pub root_level : ℕ → BsdLevel
root_level n =
    cond (clock_line n) Clock (cond (tty_line n) Tty (cond (net_line n) Net (cond (bio_line n) Bio (cond (softnet_line n) SoftNet SoftClock))))

-- each level can be set, and has the code of its place in the order
abbrev pub root_code : BsdLevel → Option ℕ
root_code l = Some (code l)

-- the level that each code stands for
abbrev pub root_named : ℕ → Option BsdLevel
root_named zero = Some None
root_named (suc zero) = Some SoftClock
root_named (suc (suc zero)) = Some SoftNet
root_named (suc (suc (suc zero))) = Some Bio
root_named (suc (suc (suc (suc zero)))) = Some Net
root_named (suc (suc (suc (suc (suc zero))))) = Some Tty
root_named (suc (suc (suc (suc (suc (suc zero)))))) = Some Clock
root_named (suc (suc (suc (suc (suc (suc (suc zero))))))) = Some High
root_named (suc (suc (suc (suc (suc (suc (suc (suc n)))))))) = option.None
