-- How many lines a set has.
use Rattle.std.proofs.Common.{◌≡◌, ℕ, zero, suc, ◌+◌, ◌-◌, ◌/◌, ◌%◌, ◌^◌, ◌<◌, ◌≤◌, true, false, sym, refl, ap, ◌∙◌, arith}
use lib.Count.{ones, ones_step, ones-ones}
use Rattle.std.proofs.lemmas.Bool.Decides.{nat_tests}
use Rattle.lines.specs.Sets.{has, union, minus, only, size, Within}
use Rattle.lines.proofs.Laws.{ext, has-suc, has-zero, has-union, has-minus, has-only, has_ones}
use Rattle.lines.proofs.Algebra.{back}

pub size_none : size 0 ≡ 0
unfolding size ones
size_none = refl

size_step : (s : ℕ) → size s ≡ s % 2 + size (s / 2)
unfolding size
size_step s = ones_step s

half_within : (s t : ℕ) → Within s t → Within (s / 2) (t / 2)
half_within s t w n h = has-suc t n ∙ w (suc n) (sym (has-suc s n) ∙ h)

low_le : (s t : ℕ) → Within s t → s % 2 ≤ t % 2
low_le s t w = let a = has-zero s in let b = has-zero t in let c = w 0 in grind (arith, nat_tests)

mono_by : (d s t : ℕ) → s ≤ d → Within s t → size s ≤ size t
mono_by zero s t h w = let z : s ≡ 0 = omega arith in rw (z, size_none) (omega arith)
mono_by (suc d) s t h w =
    omega (arith, size_step s, size_step t, low_le s t w, mono_by d (s / 2) (t / 2) (omega arith) (half_within s t w))

-- a set within another has no more lines
pub size_mono : (s t : ℕ) → Within s t → size s ≤ size t
size_mono s t w = mono_by s s t (omega arith) w

same_by : (d s t : ℕ) → s ≤ d → t ≤ d → Within s t → size s ≡ size t → s ≡ t
same_by zero s t h k w q = omega arith
same_by (suc d) s t h k w q =
    let low = low_le s t w in
    let rest = size_mono (s / 2) (t / 2) (half_within s t w) in
    let high : s / 2 ≡ t / 2 = same_by d (s / 2) (t / 2) (omega arith) (omega arith) (half_within s t w) (omega (arith, size_step s, size_step t)) in
    let lows : s % 2 ≡ t % 2 = omega (arith, size_step s, size_step t) in
    omega arith

-- a set within another that has as many lines is the other
pub same_size : (s t : ℕ) → Within s t → size s ≡ size t → s ≡ t
same_size s t w q = same_by (s + t) s t (omega arith) (omega arith) w q

-- the sets of a line less, halved
drop_low : (s : ℕ) → minus s (only 0) / 2 ≡ s / 2
drop_low s = ext _ _ (λ m. rw (has-suc (minus s (only 0)) m, has-suc s m) (simp (has-minus, has-only) (grind (arith, nat_tests))))

drop_high : (s n : ℕ) → minus s (only (suc n)) / 2 ≡ minus (s / 2) (only n)
drop_high s n = ext _ _ (λ m. rw (has-suc (minus s (only (suc n))) m) (simp (has-minus, has-only, has-suc) (grind (arith, nat_tests))))

-- the lowest digits
low_out : (s : ℕ) → has s 0 ≡ true → (s % 2 ≡ 1) × (minus s (only 0) % 2 ≡ 0)
low_out s h =
    let a = has-zero s in
    let b = has-zero (minus s (only 0)) in
    let c : has (minus s (only 0)) 0 ≡ false = simp (has-minus, has-only) (grind (arith, nat_tests)) in
    (grind (arith, nat_tests), grind (arith, nat_tests))

low_kept : (s n : ℕ) → minus s (only (suc n)) % 2 ≡ s % 2
low_kept s n =
    let a = has-zero s in
    let b = has-zero (minus s (only (suc n))) in
    let c : has (minus s (only (suc n))) 0 ≡ has s 0 = simp (has-minus, has-only) (grind (arith, nat_tests)) in
    grind (arith, nat_tests)

-- a line taken out
pub size_out : (n s : ℕ) → has s n ≡ true → size s ≡ suc (size (minus s (only n)))
size_out zero s h =
    let d = low_out s h in
    let e : size (minus s (only 0) / 2) ≡ size (s / 2) = ap size (drop_low s) in
    omega (arith, size_step s, size_step (minus s (only 0)))
size_out (suc n) s h =
    let d = low_kept s n in
    let e : size (minus s (only (suc n)) / 2) ≡ size (minus (s / 2) (only n)) = ap size (drop_high s n) in
    let i = size_out n (s / 2) (has-suc s n ∙ h) in
    omega (arith, size_step s, size_step (minus s (only (suc n))))

-- a line put in
pub size_in : (n s : ℕ) → has s n ≡ false → size (union s (only n)) ≡ suc (size s)
size_in n s h =
    let t : has (union s (only n)) n ≡ true = simp (has-union, has-only) (grind (arith, nat_tests)) in
    size_out n (union s (only n)) t ∙ ap (λ x. suc (size x)) (back s n h)

pub size_ones : (k : ℕ) → size (2 ^ k - 1) ≡ k
unfolding size
size_ones k = ones-ones k

-- a set whose lines are below k has at most k of them
pub size_small : (k s : ℕ) → ((n : ℕ) → has s n ≡ true → n < k) → size s ≤ k
size_small k s h = let m = size_mono s (2 ^ k - 1) (λ n t. has_ones k n (h n t)) in omega (arith, size_ones k)
