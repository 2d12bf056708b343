-- One more digit of a numeral.
use Rattle.std.proofs.Common.{◌≡◌, ℕ, ◌+◌, ◌*◌, ◌^◌, ◌<◌, ◌≤◌, cond, ltb, List, length, get_or, drop, Some, None, ap, ◌∙◌, subst, add-mul, mul-le-mul, one-mul, pow-suc, add-one, arith}
use native.Mathlib.Nat.{pow-le-pow_right}
use Rattle.std.proofs.lemmas.Bool.{ltb-true}
use Rattle.std.proofs.lemmas.List.{at_drop_more}
use Rattle.trace_lines.specs.Numerals.{digit_value, digit_of, number_after}
use Rattle.trace_lines.proofs.Options.{cond_some}

pub fits : (i : ℕ) → i < 16 → 16 ^ (i + 1) ≤ 2 ^ 64
fits i h = pow-le-pow_right {n = 16} (omega arith) {i = i + 1} {j = 16} (omega arith)

-- a digit is one of the base
digit_is : (b c d : ℕ) → digit_of b c ≡ Some d → (digit_value c ≡ d) × (d < b)
digit_is b c d e =
    let p = cond_some (ltb (digit_value c) b) (Some (digit_value c)) d e in
    let q : digit_value c ≡ d = cc p.1 in
    (q, subst (λ d. d < b) q (ltb-true (digit_value c) b p.0))

pub grows : (n b d i : ℕ) → n < 16 ^ i → b ≤ 16 → d < b → n * b + d < 16 ^ (i + 1)
grows n b d i h k l =
    let p : (n + 1) * b ≤ 16 ^ i * 16 = mul-le-mul {n₁ = n + 1} {m₁ = b} {n₂ = 16 ^ i} {m₂ = 16} (omega arith) k in
    rw (add-one, pow-suc) (omega (arith, p, add-mul n 1 b, one-mul b))

-- by the digit that stands next
pub grows_digit : (b n d i : ℕ) (s : List ℕ) → n < 16 ^ i → b ≤ 16 → digit_of b (get_or s i 0) ≡ Some d → n * b + d < 16 ^ (i + 1)
grows_digit b n d i s h k e = grows n b d i h k (digit_is b (get_or s i 0) d e).1

pub reads_on : (b n d i : ℕ) (s : List ℕ) → i < length s → digit_of b (get_or s i 0) ≡ Some d
    → number_after b n (drop i s) ≡ number_after b (n * b + d) (drop (i + 1) s)
reads_on b n d i s h e =
    let c = get_or s i 0 in
    at_drop_more (number_after b n) s i 0 h
    ∙ ap (λ t. cond t (number_after b (n * b + digit_value c) (drop (i + 1) s)) None) (cond_some (ltb (digit_value c) b) (Some (digit_value c)) d e).0
    ∙ ap (λ x. number_after b (n * b + x) (drop (i + 1) s)) (digit_is b c d e).0
