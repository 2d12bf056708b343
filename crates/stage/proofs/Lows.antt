-- The lines that a level blocks, as the policy's codes tell them.
use Rattle.std.proofs.Common.{◌≡◌, ℕ, zero, suc, ◌<◌, Bool, true, false, cond, not, ◌&&◌, ◌||◌, eqb, ltb, ◌⊎◌, Some, None, Option, sym, refl, ap, ◌∙◌, inl, inr, arith}
use Rattle.std.proofs.lemmas.Bool.{cases_Bool, lt-ltb, eqb-true}
use Rattle.std.proofs.lemmas.Bool.Decides.{nat_tests}
use Rattle.lines.specs.Sets.{has, common, only}
use Rattle.lines.proofs.Laws.{ext, has-union, has-common, has-only, has_none}
use Rattle.spl.specs.Blocking.{Low}
use Rattle.spl.specs.Codes.{Decodes}
use Rattle.stage.specs.Layers.{set_where}

one_more : (f : ℕ → Bool) (k n : ℕ) → (b : Bool) → f k ≡ b → ((ltb n k && f n) || has (cond b (only k) 0) n) ≡ (ltb n (suc k) && f n)
one_more f k n true e =
    simp has-only (elim (cases_Bool (eqb n k)) [
      | inl q ↦ let i : f n ≡ true = ap f (eqb-true n k q) ∙ e in grind (arith, nat_tests)
      | inr q ↦ grind (arith, nat_tests)
    ])
one_more f k n false e =
    simp has_none (elim (cases_Bool (eqb n k)) [
      | inl q ↦ let i : f n ≡ false = ap f (eqb-true n k q) ∙ e in grind (arith, nat_tests)
      | inr q ↦ grind (arith, nat_tests)
    ])

pub has_where : (k : ℕ) (f : ℕ → Bool) (n : ℕ) → has (set_where k f) n ≡ (ltb n k && f n)
unfolding set_where
has_where zero f n = has_none n ∙ grind (arith, nat_tests)
has_where (suc k) f n =
    has-union (set_where k f) _ n ∙ ap (λ b. b || has (cond (f k) (only k) 0) n) (has_where k f n) ∙ one_more f k n (f k) refl

-- the low lines are those of the controller that the set has
pub low_is : (lines low : ℕ) (above : ℕ → Bool) → ((n : ℕ) → has lines n ≡ true → n < 64) → Low lines above low → low ≡ common lines (set_where 64 (λ n. not (above n)))
low_is lines low above small l =
    ext _ _ (λ n. l n ∙ sym (has-common lines _ n ∙ ap (λ b. has lines n && b) (has_where 64 (λ m. not (above m)) n) ∙ inside n (cases_Bool (has lines n))))
  where
    inside : (n : ℕ) → (has lines n ≡ true) ⊎ (has lines n ≡ false) → (has lines n && (ltb n 64 && not (above n))) ≡ (has lines n && not (above n))
    inside n (inl e) = ap (λ b. has lines n && (b && not (above n))) (lt-ltb n 64 (small n e))
    inside n (inr e) = ap (λ b. b && (ltb n 64 && not (above n))) e ∙ sym (ap (λ b. b && not (above n)) e)

-- the level that a level's code stands for is that level
pub named_back : {K : Type 0} (codes : K → Option ℕ) (named : ℕ → Option K) (l : K) (c : ℕ)
    → ((c : ℕ) → Decodes codes c (named c)) → ((a b : K) (c : ℕ) → codes a ≡ Some c → codes b ≡ Some c → a ≡ b) → codes l ≡ Some c → named c ≡ Some l
named_back {K} codes named l c decodes distinct e = at (named c) (decodes c)
  where
    at : (r : Option K) → Decodes codes c r → r ≡ Some l
    at (Some k) d = ap Some (distinct k l c d e)
    at None d = absurd (d l e)
