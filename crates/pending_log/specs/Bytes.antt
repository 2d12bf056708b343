-- Eight bytes as one set of 64 lines, and the upper byte.
use Rattle.std.specs.Prelude.{◌≡◌, ℕ, ◌+◌, ◌*◌, ◌/◌, ◌<◌, true, cond, not, ◌&&◌, List, [], ◌∷◌, Decides, ◌==◌, slice_index}
use Rattle.lines.specs.Sets.{has, minus, only, with_line}

-- the set whose lines from 8 i on are in byte i
unfoldable pub flat : List ℕ → ℕ
flat [] = 0
flat (b ∷ bs) = flat bs * 256 + b

-- bit i of the upper byte is set exactly when byte i is not zero
abbrev pub Upper : List ℕ → ℕ → Type 0
Upper bytes upper = (i : ℕ) → i < 8 → has upper i ≡ not (slice_index bytes i == 0)

-- bit i of the upper byte is set exactly when one of the lines from 8 i to 8 i + 7 is in the set s
abbrev pub UpperOf : ℕ → ℕ → Type 0
UpperOf s upper = (i : ℕ) → Decides (has upper i) ((n : ℕ) × (n / 8 ≡ i) × (has s n ≡ true))

-- the upper byte once byte i is b
abbrev pub upper_written : ℕ → ℕ → ℕ → ℕ
upper_written upper i b = cond (b == 0) (minus upper (only i)) (with_line 8 upper i)

-- t has the lines of s that are in byte i
abbrev pub Block : ℕ → ℕ → ℕ → Type 0
Block s i t = (n : ℕ) → has t n ≡ (has s n && n / 8 == i)
