-- The bits of a number in two parts.
use Rattle.std.proofs.Common.{◌≡◌, ℕ, ◌+◌, ◌-◌, ◌*◌, ◌^◌, ◌<◌, arith}
use Rattle.std.proofs.lemmas.Nat.Bits.{bit_at_cat_low, bit_at_cat_high}
use Rattle.lines.specs.Sets.{has}

pub block_low : (k a r n : ℕ) → n < k → has (a * 2 ^ k + r) n ≡ has r n
unfolding has
block_low k a r n h = rw (bit_at_cat_low a k r n h)

pub block_high : (k a r n : ℕ) → r < 2 ^ k → has (a * 2 ^ k + r) (k + n) ≡ has a n
unfolding has
block_high k a r n h = let e : k + n - k ≡ n = omega arith in rw (bit_at_cat_high a k r (k + n) h (omega arith), e)
