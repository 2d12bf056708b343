-- Equations between sets of lines, each shown line by line.
use Rattle.std.proofs.Common.{◌≡◌, ℕ, ◌+◌, ◌^◌, ◌<◌, Bool, true, false, ltb, sym, refl, ap, ◌∙◌, arith}
use lib.Bits.{bit_and, bit_or}
use Rattle.std.proofs.lemmas.Nat.{pow_pos, or_disjoint}
use Rattle.std.proofs.lemmas.Bool.{cond-true, lt-ltb}
use Rattle.std.proofs.lemmas.Bool.Decides.{nat_tests}
use Rattle.lines.specs.Sets.{has, union, common, minus, only, Within, with_line}
use Rattle.lines.proofs.Laws.{ext, has-union, has-common, has-minus, has-only, has_none}

pub with_present : (s n : ℕ) → has s n ≡ true → union s (only n) ≡ s
with_present s n h = ext _ _ (λ m. simp (has-union, has-only) (grind (arith, nat_tests)))

pub union_assoc : (a b c : ℕ) → union a (union b c) ≡ union (union a b) c
union_assoc a b c = ext _ _ (λ m. simp has-union (grind (arith, nat_tests)))

-- a line moved from one set to another
pub moved : (s t n : ℕ) → has t n ≡ true → union (union s (only n)) (minus t (only n)) ≡ union s t
moved s t n h = ext _ _ (λ m. simp (has-union, has-minus, has-only) (grind (arith, nat_tests)))

-- a line put in and taken out
pub back : (s n : ℕ) → has s n ≡ false → minus (union s (only n)) (only n) ≡ s
back s n h = ext _ _ (λ m. simp (has-union, has-minus, has-only) (grind (arith, nat_tests)))

pub without_right : (s t n : ℕ) → has s n ≡ false → union s (minus t (only n)) ≡ minus (union s t) (only n)
without_right s t n h = ext _ _ (λ m. simp (has-union, has-minus, has-only) (grind (arith, nat_tests)))

-- the part of s within t, and the rest of s
pub split : (s t u : ℕ) → union (common s t) (union u (minus s t)) ≡ union s u
split s t u = ext _ _ (λ m. simp (has-union, has-minus, has-common) (grind (arith, nat_tests)))

pub within_from : (s t : ℕ) → minus s t ≡ 0 → Within s t
within_from s t e n h = let k = sym (has-minus s t n) ∙ ap (λ z. has z n) e ∙ has_none n in grind (arith, nat_tests)

pub from_within : (s t : ℕ) → Within s t → minus s t ≡ 0
from_within s t w = ext _ _ (λ n. let k = w n in simp (has-minus, has_none) (grind (arith, nat_tests)))

pub union_none : (s : ℕ) → union s 0 ≡ s
union_none s = ext _ _ (λ n. simp (has-union, has_none) (grind (arith, nat_tests)))

-- lines taken out in two steps
pub minus_more : (s log log₀ n : ℕ) → has log₀ n ≡ false → minus (minus s (minus log log₀)) (only n) ≡ minus s (minus (union log (only n)) log₀)
minus_more s log log₀ n h = ext _ _ (λ m. simp (has-union, has-minus, has-only) (grind (arith, nat_tests)))

pub minus_self : (s t : ℕ) → minus s (minus t t) ≡ s
minus_self s t = ext _ _ (λ m. simp has-minus (grind (arith, nat_tests)))

-- lines moved out of s into the log
pub moved_all : (s log log₀ : ℕ) → Within log₀ log → Within (minus log log₀) s → union log (minus s (minus log log₀)) ≡ union log₀ s
moved_all s log log₀ g h = ext _ _ (λ m. let p = g m in let q = rw has-minus at (h m) in simp (has-union, has-minus) (grind (arith, nat_tests)))

disjoint : (s n : ℕ) → common (minus s (only n)) (only n) ≡ 0
disjoint s n = ext _ _ (λ m. simp (has-common, has-minus, has-only, has_none) (grind (arith, nat_tests)))

again : (s n : ℕ) → has s n ≡ true → union (minus s (only n)) (only n) ≡ s
again s n h = ext _ _ (λ m. simp (has-union, has-minus, has-only) (grind (arith, nat_tests)))

-- a set falls as a line of it goes
pub less : (s n : ℕ) → has s n ≡ true → minus s (only n) < s
unfolding common union only
less s n h = sum (or_disjoint (minus s (only n)) (2 ^ n) (as_common (disjoint s n))) (as_union (again s n h)) where
  as_common : common (minus s (only n)) (only n) ≡ 0 → bit_and (minus s (only n)) (2 ^ n) ≡ 0
  as_common e = e

  as_union : union (minus s (only n)) (only n) ≡ s → bit_or (minus s (only n)) (2 ^ n) ≡ s
  as_union e = e

  sum : bit_or (minus s (only n)) (2 ^ n) ≡ minus s (only n) + 2 ^ n → bit_or (minus s (only n)) (2 ^ n) ≡ s → minus s (only n) < s
  sum a b = let p = pow_pos n in omega arith

-- a line of one set and not of the other
pub in_minus : (s t n : ℕ) → has (minus s t) n ≡ true → (has s n ≡ true) × (has t n ≡ false)
in_minus s t n h = let e = has-minus s t n in (grind (arith, nat_tests), grind (arith, nat_tests))

pub minus_in : (s t n : ℕ) → has s n ≡ true → has t n ≡ false → has (minus s t) n ≡ true
minus_in s t n h k = simp has-minus (grind (arith, nat_tests))

-- a set with no line is empty
pub empty_from : (s : ℕ) → ((n : ℕ) → has s n ≡ true → ⊥) → s ≡ 0
empty_from s h = ext s 0 (λ n. at n (has s n) refl) where
  at : (n : ℕ) (x : Bool) → has s n ≡ x → has s n ≡ has 0 n
  at n true e = absurd (h n e)
  at n false e = e ∙ sym (has_none n)

-- the part of a set that lies within another is the set where all of it does
pub common_within : (s t : ℕ) → Within s t → common s t ≡ s
common_within s t w = ext _ _ (λ n. let k = w n in simp has-common (grind (arith, nat_tests)))

-- a line put into a set of k lines
pub with_small : (k s n : ℕ) → n < k → with_line k s n ≡ union s (only n)
with_small k s n h = cond-true (ltb n k) _ _ (lt-ltb n k h)

-- each line of s is in t exactly when none is left of s without t
pub ruleset within = (within_from, from_within)
