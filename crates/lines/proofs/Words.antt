-- Sets of lines in a number of 64 bits, and in a byte.
use Rattle.std.proofs.Common.{◌≡◌, ℕ, ◌-◌, ◌*◌, ◌%◌, ◌^◌, ◌<◌, ◌≤◌, false, sym, arith}
use lib.Bits.{bit_and}
use Rattle.std.proofs.lemmas.Nat.{pow_below, one_shl, or_of_8, xor_of_8, and_le_l}
use Rattle.std.specs.Int.{w64}
use Rattle.std.proofs.lemmas.Nat.Bits.{shr_and_one}
use Rattle.lines.specs.Sets.{has, union, common, minus, only}
use Rattle.lines.proofs.Laws.{not_has, has_small, has_all, and_not, without_none}
use Rattle.lines.proofs.Algebra.{common_within}

-- how a line is read, put in and taken out
pub past_word : (s n : ℕ) → s < 2 ^ 64 → 64 ≤ n → has s n ≡ false
past_word s n b g = not_has 64 s n b g

pub minus_word : (s t : ℕ) → s < 2 ^ 64 → t < 2 ^ 64 → bit_and s (18446744073709551615 - t) ≡ minus s t
minus_word s t a b = and_not w64 s t a b

pub out_word : (s n : ℕ) → s < 2 ^ 64 → n < 64 → bit_and s (18446744073709551615 - 1 * 2 ^ n % 2 ^ 64) ≡ minus s (only n)
unfolding only
out_word s n a h = rw (one_shl n 64 h) (and_not w64 s (2 ^ n) a (pow_below n 64 h))

pub out_past_word : (s n : ℕ) → s < 2 ^ 64 → 64 ≤ n → minus s (only n) ≡ s
out_past_word s n b g = sym (without_none 64 s n b g)

pub all_word : (s : ℕ) → s < 2 ^ 64 → common s 18446744073709551615 ≡ s
all_word s b = common_within s 18446744073709551615 (λ n h. has_all n (has_small 64 s n b h))

pub ruleset word = (shr_and_one, past_word, one_shl, minus_word, out_word, out_past_word)

-- a byte stays a byte
pub put_byte : (s n : ℕ) → s < 256 → n < 8 → union s (only n) < 256
unfolding union only
put_byte s n b h = or_of_8 s (2 ^ n) b (pow_below n 8 h)

pub out_byte : (s n : ℕ) → s < 256 → minus s (only n) < 256
unfolding minus
out_byte s n b = xor_of_8 s (bit_and s (only n)) b (omega (arith, and_le_l s (only n)))

pub ruleset byte = (put_byte, out_byte)
