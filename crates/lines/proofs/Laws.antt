-- The laws of sets of lines: what each operation has, and that a set is known by its lines.
use Rattle.std.proofs.Common.{◌≡◌, ℕ, zero, suc, ◌+◌, ◌-◌, ◌/◌, ◌%◌, ◌^◌, ◌<◌, ◌≤◌, Bool, true, false, not, ◌&&◌, ◌||◌, eqb, ◌⊎◌, sym, refl, ap, ◌∙◌, inl, inr, arith}
use lib.Bits.{bit_and}
use mir.Val.{bits}
use Rattle.std.specs.Int.{Width, bit_not}
use Rattle.std.proofs.lemmas.Nat.Bits.{bit_at-lt, bit_at_lowest, bit_at-suc, bit_at-zero, bit_at_and, bit_at_or, bit_at_xor, bit_at_not, bit_at_ones, bit_at_above, bit_at-pow_same, bit_at-pow_other, same_from_bits}
use Rattle.std.proofs.lemmas.Bool.Decides.{nat_tests}
use Rattle.std.proofs.lemmas.Bool.{eq-eqb, ne_eqb, cases_order, cases_eq, cases_lt, both_ways}
use Rattle.lines.specs.Sets.{has, union, common, minus, only}

-- a bit is 0 or 1
pub bit_two : (x : ℕ) → (x % 2 ≡ 0) ⊎ (x % 2 ≡ 1)
bit_two x =
    elim (cases_order (x % 2) 0) [ inl e ↦ inl e | inr o ↦ elim o [ inl l ↦ inl (omega arith) | inr g ↦ inr (omega arith) ] ]

pub has-common : (s t n : ℕ) → has (common s t) n ≡ (has s n && has t n)
unfolding has common
has-common s t n = let a = bit_at-lt s n in let b = bit_at-lt t n in rw (bit_at_and s t n) (grind (arith, nat_tests))

pub has-union : (s t n : ℕ) → has (union s t) n ≡ (has s n || has t n)
unfolding has union
has-union s t n = let a = bit_at-lt s n in let b = bit_at-lt t n in rw (bit_at_or s t n) (grind (arith, nat_tests))

pub has-minus : (s t n : ℕ) → has (minus s t) n ≡ (has s n && not (has t n))
unfolding has minus
has-minus s t n =
    let a = bit_at-lt s n in let b = bit_at-lt t n in rw (bit_at_xor s (bit_and s t) n, bit_at_and s t n) (grind (arith, nat_tests))

pub has_none : (n : ℕ) → has 0 n ≡ false
unfolding has
has_none n = rw (bit_at-zero n)

pub has-only : (k n : ℕ) → has (only k) n ≡ eqb n k
unfolding has only
has-only k n = elim (cases_eq n k) [
  | inl e ↦ rw (e, bit_at-pow_same k) (sym (eq-eqb k k refl))
  | inr d ↦ rw (bit_at-pow_other k n d) (sym (ne_eqb n k d))
]

pub has-suc : (s n : ℕ) → has (s / 2) n ≡ has s (suc n)
unfolding has
has-suc s n = rw (bit_at-suc s n)

pub has-zero : (s : ℕ) → has s 0 ≡ eqb (s % 2) 1
unfolding has
has-zero s = rw (bit_at_lowest s)

pub below_power : (n : ℕ) → n < 2 ^ n
below_power zero = omega arith
below_power (suc n) = let h = below_power n in omega arith

-- a set is known by its lines
pub ext : (s t : ℕ) → ((n : ℕ) → has s n ≡ has t n) → s ≡ t
unfolding has
ext s t h = same_from_bits s t (λ n. let a = bit_at-lt s n in let b = bit_at-lt t n in let e = h n in grind (arith, nat_tests))

-- past its size a number has no line
pub not_has : (k s n : ℕ) → s < 2 ^ k → k ≤ n → has s n ≡ false
unfolding has
not_has k s n b g = rw (bit_at_above s k n b g)

pub has_small : (k s n : ℕ) → s < 2 ^ k → has s n ≡ true → n < k
has_small k s n b h = elim (cases_lt n k) [ inl l ↦ l | inr g ↦ absurd (both_ways _ (not_has k s n b g) h) ]

-- the set of the lowest k lines, and the set of all 64
pub has_ones : (k n : ℕ) → n < k → has (2 ^ k - 1) n ≡ true
unfolding has
has_ones k n h = rw (bit_at_ones k n h)

pub has_all : (n : ℕ) → n < 64 → has 18446744073709551615 n ≡ true
has_all n h = has_ones 64 n h

pub small_all : (n : ℕ) → has 18446744073709551615 n ≡ true → n < 64
small_all n h = has_small 64 18446744073709551615 n (omega arith) h

-- `s & !t` at a width
module _ (w : Width) (s t : ℕ) (a : s < 2 ^ bits w) (b : t < 2 ^ bits w) where
  and_not_at : (n : ℕ) → has (bit_and s (bit_not w t)) n ≡ has (minus s t) n
  unfolding has minus
  and_not_at n = elim (cases_lt n (bits w)) [
    | inl l ↦ let x = bit_at-lt s n in let y = bit_at-lt t n in
        rw (bit_at_and s (bit_not w t) n, bit_at_not w t n b l, bit_at_xor s (bit_and s t) n, bit_at_and s t n) (grind (arith, nat_tests))
    | inr g ↦ let x = bit_at_above s (bits w) n a g in
        rw (bit_at_and s (bit_not w t) n, bit_at_xor s (bit_and s t) n, bit_at_and s t n, x) (grind (arith, nat_tests))
  ]

  pub and_not : bit_and s (bit_not w t) ≡ minus s t
  and_not = ext _ _ and_not_at

-- the same at any number of bits
low_flip : (x y : ℕ) → (x ≡ 0) ⊎ (x ≡ 1) → (y ≡ 0) ⊎ (y ≡ 1) → x + y ≡ 1 → eqb x 1 ≡ not (eqb y 1)
low_flip x y (inl a) (inl b) e = absurd (omega arith)
low_flip x y (inl a) (inr b) e = rw (a, b) refl
low_flip x y (inr a) (inl b) e = rw (a, b) refl
low_flip x y (inr a) (inr b) e = absurd (omega arith)

complement_has : (k s n : ℕ) → s < 2 ^ k → n < k → has (2 ^ k - 1 - s) n ≡ not (has s n)
complement_has zero s n a b = absurd (omega arith)
complement_has (suc k) s zero a b =
    rw (has-zero (2 ^ suc k - 1 - s), has-zero s) (low_flip _ _ (bit_two (2 ^ suc k - 1 - s)) (bit_two s) (omega arith))
complement_has (suc k) s (suc n) a b =
    let e : (2 ^ suc k - 1 - s) / 2 ≡ 2 ^ k - 1 - s / 2 = omega arith in
    rw (← (has-suc (2 ^ suc k - 1 - s) n), ← (has-suc s n), e) (complement_has k (s / 2) n (omega arith) (omega arith))

module _ (k s t : ℕ) (a : s < 2 ^ k) (b : t < 2 ^ k) where
  as_common : (n : ℕ) → has (bit_and s (2 ^ k - 1 - t)) n ≡ (has s n && has (2 ^ k - 1 - t) n)
  unfolding common
  as_common n = has-common s (2 ^ k - 1 - t) n

  and_not_under : (n : ℕ) (x : Bool) → has s n ≡ x → has (bit_and s (2 ^ k - 1 - t)) n ≡ has (minus s t) n
  and_not_under n true e =
      as_common n ∙ ap (λ y. has s n && y) (complement_has k t n b (has_small k s n a e)) ∙ sym (has-minus s t n)
  and_not_under n false e = rw (as_common n, has-minus s t n, e) refl

  pub and_not_below : bit_and s (2 ^ k - 1 - t) ≡ minus s t
  and_not_below = ext _ _ (λ n. and_not_under n (has s n) refl)

-- the laws as one list, for `simp` and `grind`
pub ruleset members = (has-union, has-common, has-minus, has-only, has_none)

-- past its size a number has no line to take out
pub without_none : (k s n : ℕ) → s < 2 ^ k → k ≤ n → s ≡ minus s (only n)
without_none k s n b g =
    ext _ _ (λ m. elim (cases_order m n) [
      | inl e ↦ let z : has s m ≡ false = not_has k s m b (omega arith) in simp (has-minus, has-only) (grind (arith, nat_tests))
      | inr d ↦ simp (has-minus, has-only) (grind (arith, nat_tests))
    ])
