-- Two bytes as one set of lines.
use Rattle.std.specs.Prelude.{◌≡◌, ℕ, ◌+◌, ◌-◌, ◌*◌, ◌/◌, ◌%◌, ◌<◌, ◌≤◌, true, false, not, ◌&&◌, ◌==◌, ◌≢◌, nat_eq, refl}
use Rattle.std.proofs.Common.{sym, ap, subst, ltb, ◌∙◌, inl, inr, arith}
use Rattle.std.proofs.lemmas.Bool.{both_ways, cases_lt, ne_eqb, eq-eqb, lt-ltb}
use Rattle.std.proofs.lemmas.Bool.Decides.{nat_tests}
use Rattle.lines.specs.Sets.{has, union, common, minus, only}
use Rattle.lines.proofs.Laws.{has_none, has-union, has-common, has-minus, has-only, has_ones, has_small, not_has, ext}
use Rattle.lines.proofs.Words.{put_byte, out_byte}
use Rattle.lines.proofs.Blocks.{block_low, block_high}
use Rattle.pair8259.specs.Chips.{joined, Cascaded}

low : (m s n : ℕ) → n < 8 → has (joined m s) n ≡ (has m n && not (n == 2))
unfolding joined
low m s n h = has-minus (s * 256 + m) (only 2) n ∙ (rw (block_low 8 s m n h, has-only 2 n))

high : (m s n : ℕ) → m < 256 → 8 ≤ n → has (joined m s) n ≡ has s (n - 8)
unfolding joined
high m s n b h =
    let e : 8 + (n - 8) ≡ n = omega arith in
    let f : has (s * 256 + m) n ≡ has s (n - 8) = subst (λ k. has (s * 256 + m) k ≡ has s (n - 8)) e (block_high 8 s m (n - 8) b) in
    let z : nat_eq n 2 ≡ false = ne_eqb n 2 (λ x. omega arith) in
    has-minus (s * 256 + m) (only 2) n ∙ (rw (f, has-only 2 n, z) (grind (arith, nat_tests)))

-- all sixteen inputs but the one where the slave hangs
all_lines : joined 255 255 ≡ 0xfffb
unfolding joined minus only
all_lines = refl

line_low : (n : ℕ) → n < 8 → has 0xfffb n ≡ not (n == 2)
line_low n h = ap (λ s. has s n) (sym all_lines) ∙ low 255 255 n h ∙ (rw (has_ones 8 n h) refl)

line_high : (n : ℕ) → 8 ≤ n → has 0xfffb n ≡ has 255 (n - 8)
line_high n h = ap (λ s. has s n) (sym all_lines) ∙ high 255 255 n (omega arith) h

pub line_two : (n : ℕ) → has 0xfffb n ≡ true → n ≢ 2
line_two n h e = let l = line_low n (omega arith) in let z : nat_eq n 2 ≡ true = eq-eqb n 2 e in both_ways _ (rw (l, z)) h

pub line_small : (n : ℕ) → has 0xfffb n ≡ true → n < 16
line_small n h = has_small 16 0xfffb n (omega arith) h

pub on_slave : (n : ℕ) → has 0xfffb n ≡ true → 8 ≤ n → ltb (n - 8) 8 ≡ true
on_slave n h g = let l = line_small n h in lt-ltb (n - 8) 8 (omega arith)

pub line_below : (n : ℕ) → has 0xfffb n ≡ true → n < 64
line_below n h = let l = line_small n h in omega arith

-- a line goes into one of the bytes or out of it
module _ (m s : ℕ) (b : m < 256) where
  pub insert_low : (n : ℕ) → n < 8 → has 0xfffb n ≡ true → joined (union m (only n)) s ≡ union (joined m s) (only n)
  insert_low n h w = let d = line_two n w in ext _ _ (λ k. elim (cases_lt k 8) [
    | inl l ↦ let p = low (union m (only n)) s k l in let q = low m s k l in let r = has-union m (only n) k in let t = has-only n k in
        simp has-union (grind (arith, nat_tests))
    | inr g ↦ let p = high (union m (only n)) s k (put_byte m n b h) g in let q = high m s k b g in let t = has-only n k in
        simp has-union (grind (arith, nat_tests))
  ])

  pub insert_high : (n : ℕ) → 8 ≤ n → joined m (union s (only (n - 8))) ≡ union (joined m s) (only n)
  insert_high n h = ext _ _ (λ k. elim (cases_lt k 8) [
    | inl l ↦ let p = low m (union s (only (n - 8))) k l in let q = low m s k l in let t = has-only n k in
        simp has-union (grind (arith, nat_tests))
    | inr g ↦ let p = high m (union s (only (n - 8))) k b g in let q = high m s k b g in let r = has-union s (only (n - 8)) (k - 8) in
        let t = has-only n k in let u = has-only (n - 8) (k - 8) in
        simp has-union (grind (arith, nat_tests))
  ])

  pub remove_low : (n : ℕ) → n < 8 → joined (minus m (only n)) s ≡ minus (joined m s) (only n)
  remove_low n h = ext _ _ (λ k. elim (cases_lt k 8) [
    | inl l ↦ let p = low (minus m (only n)) s k l in let q = low m s k l in let r = has-minus m (only n) k in let t = has-only n k in
        simp has-minus (grind (arith, nat_tests))
    | inr g ↦ let p = high (minus m (only n)) s k (out_byte m n b) g in let q = high m s k b g in let t = has-only n k in
        simp has-minus (grind (arith, nat_tests))
  ])

  pub remove_high : (n : ℕ) → 8 ≤ n → joined m (minus s (only (n - 8))) ≡ minus (joined m s) (only n)
  remove_high n h = ext _ _ (λ k. elim (cases_lt k 8) [
    | inl l ↦ let p = low m (minus s (only (n - 8))) k l in let q = low m s k l in let t = has-only n k in
        simp has-minus (grind (arith, nat_tests))
    | inr g ↦ let p = high m (minus s (only (n - 8))) k b g in let q = high m s k b g in let r = has-minus s (only (n - 8)) (k - 8) in
        let t = has-only n k in let u = has-only (n - 8) (k - 8) in
        simp has-minus (grind (arith, nat_tests))
  ])

  -- bit 2 of the master is no line
  pub joined_set : joined (union m (only 2)) s ≡ joined m s
  joined_set = ext _ _ (λ k. elim (cases_lt k 8) [
    | inl l ↦ let p = low (union m (only 2)) s k l in let q = low m s k l in let r = has-union m (only 2) k in let t = has-only 2 k in grind (arith, nat_tests)
    | inr g ↦ high (union m (only 2)) s k (put_byte m 2 b (omega arith)) g ∙ sym (high m s k b g)
  ])

  pub joined_clear : joined (minus m (only 2)) s ≡ joined m s
  joined_clear = ext _ _ (λ k. elim (cases_lt k 8) [
    | inl l ↦ let p = low (minus m (only 2)) s k l in let q = low m s k l in let r = has-minus m (only 2) k in let t = has-only 2 k in grind (arith, nat_tests)
    | inr g ↦ high (minus m (only 2)) s k (out_byte m 2 b) g ∙ sym (high m s k b g)
  ])

-- a set of lines taken apart
parts : (x : ℕ) → x / 256 * 256 + x % 256 ≡ x
parts x = omega arith

mod_low : (x k : ℕ) → k < 8 → has (x % 256) k ≡ has x k
mod_low x k h = sym (block_low 8 (x / 256) (x % 256) k h) ∙ ap (λ z. has z k) (parts x)

div_high : (x k : ℕ) → 8 ≤ k → has (x / 256) (k - 8) ≡ has x k
div_high x k h =
    let e : 8 + (k - 8) ≡ k = omega arith in
    sym (block_high 8 (x / 256) (x % 256) (k - 8) (omega arith)) ∙ ap (λ z. has z (8 + (k - 8))) (parts x) ∙ ap (has x) e

-- the two bytes of any set hold its lines among those of the pair
pub split_joined : (s : ℕ) → joined (s % 256) (s / 256 % 256) ≡ common s 0xfffb
split_joined s = ext _ _ (λ k. elim (cases_lt k 8) [
  | inl l ↦ let p = low (s % 256) (s / 256 % 256) k l in let q = mod_low s k l in let w = line_low k l in
      simp has-common (grind (arith, nat_tests))
  | inr g ↦ high (s % 256) (s / 256 % 256) k (omega arith) g ∙ (elim (cases_lt k 16) [
    | inl l ↦ let p = mod_low (s / 256) (k - 8) (omega arith) in let q = div_high s k g in let w = line_high k g in let u = has_ones 8 (k - 8) (omega arith) in
        simp has-common (grind (arith, nat_tests))
    | inr f ↦ let p = not_has 8 (s / 256 % 256) (k - 8) (omega arith) (omega arith) in let w = line_high k g in let u = not_has 8 255 (k - 8) (omega arith) (omega arith) in
        simp has-common (grind (arith, nat_tests))
  ])
])

pub joined_none : joined 0 0 ≡ 0
unfolding joined
joined_none = ext _ _ (λ k. simp (has-minus, has_none) refl)

-- what the master's bit 2 tells
pub cascaded_clear : (m s x : ℕ) → s ≡ 0 → x ≡ minus m (only 2) → Cascaded x s
cascaded_clear m s x z e = let r = ap (λ y. has y 2) e ∙ has-minus m (only 2) 2 in let t = has-only 2 2 in grind (arith, nat_tests)

pub cascaded_set : (m s x : ℕ) → (s ≢ 0) → x ≡ union m (only 2) → Cascaded x s
cascaded_set m s x z e = let r = ap (λ y. has y 2) e ∙ has-union m (only 2) 2 in let t = has-only 2 2 in grind (arith, nat_tests)

-- how a line goes in and out, and how the bit is made to fit
pub ruleset bytes = (on_slave, insert_low, insert_high, remove_low, remove_high)

pub ruleset cascade = (joined_set, joined_clear, has-union, has-minus, has-only)

pub ruleset empty = (joined_none, has_none)
