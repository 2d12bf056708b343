-- Sets of lines: a number, with bit n for line n.
use Rattle.std.specs.Prelude.{◌≡◌, ℕ, ◌/◌, ◌%◌, ◌^◌, ◌<◌, Bool, true, false, cond, Some, None, Option, ◌==◌, bit_and, bit_or, bit_xor, count_ones, nat_lt}

-- whether line n is in the set s
unfoldable pub has : ℕ → ℕ → Bool
has s n = s / 2 ^ n % 2 == 1

-- the lines of s and those of t
unfoldable pub union : ℕ → ℕ → ℕ
union s t = bit_or s t

-- the lines of s that are in t
unfoldable pub common : ℕ → ℕ → ℕ
common s t = bit_and s t

-- the lines of s that are not in t
unfoldable pub minus : ℕ → ℕ → ℕ
minus s t = bit_xor s (bit_and s t)

-- the set of the one line n
unfoldable pub only : ℕ → ℕ
only n = 2 ^ n

-- how many lines s has
unfoldable pub size : ℕ → ℕ
size s = count_ones s

-- each line of s is in t
abbrev pub Within : ℕ → ℕ → Type 0
Within s t = (n : ℕ) → has s n ≡ true → has t n ≡ true

-- s with line n besides, in a set of k lines: a number from k on is no line of it and changes nothing
abbrev pub with_line : ℕ → ℕ → ℕ → ℕ
with_line k s n = cond (nat_lt n k) (union s (only n)) s

-- line n is the lowest of s
pub record Lowest (s n : ℕ) : Type 0 where
  pub one : has s n ≡ true
  pub least : (m : ℕ) → m < n → has s m ≡ false

-- the lowest line of s, or none since s is empty
abbrev pub Finds : ℕ → Option ℕ → Type 0
Finds s None = s ≡ 0
Finds s (Some n) = Lowest s n

-- the lowest line leaves the set s, or there is none since s is empty: what is left is t
abbrev pub Pops : ℕ → Option ℕ → ℕ → Type 0
Pops s None t = (s ≡ 0) × (t ≡ 0)
Pops s (Some n) t = Lowest s n × (t ≡ minus s (only n))
