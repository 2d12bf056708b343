-- Taking the lines above a level out of a set, one line after another.
use Rattle.std.proofs.Common.{◌≡◌, ℕ, Bool, true, false, not, ◌&&◌, ◌||◌, sym, ap, ◌∙◌, subst, inl, inr, arith}
use Rattle.std.proofs.lemmas.Bool.{cases_eq}
use Rattle.std.proofs.lemmas.Bool.Decides.{nat_tests}
use Rattle.lines.specs.Sets.{has, minus, only}
use Rattle.lines.proofs.Laws.{has-minus, has-only, has_none}
use Rattle.spl.specs.Blocking.{Low}

-- `low` has of the set s the lines of `rest`, which are still to be looked at, and those that are not above
abbrev pub Lowering : ℕ → (ℕ → Bool) → ℕ → ℕ → Type 0
Lowering s above rest low = (n : ℕ) → has low n ≡ (has s n && (has rest n || not (above n)))

module _ (s : ℕ) (above : ℕ → Bool) (rest low k : ℕ) (i : Lowering s above rest low) (t : has rest k ≡ true) where
  pub lowering_out : above k ≡ true → Lowering s above (minus rest (only k)) (minus low (only k))
  lowering_out a n = elim (cases_eq n k) [
    | inl e ↦ subst (λ z. has (minus low (only k)) z ≡ (has s z && (has (minus rest (only k)) z || not (above z)))) (sym e) (simp (has-minus, has-only) (grind (arith, nat_tests)))
    | inr d ↦ let j = i n in simp (has-minus, has-only) (grind (arith, nat_tests))
  ]

  pub lowering_in : above k ≡ false → Lowering s above (minus rest (only k)) low
  lowering_in a n = elim (cases_eq n k) [
    | inl e ↦ subst (λ z. has low z ≡ (has s z && (has (minus rest (only k)) z || not (above z)))) (sym e) (let j = i k in simp (has-minus, has-only) (grind (arith, nat_tests)))
    | inr d ↦ let j = i n in simp (has-minus, has-only) (grind (arith, nat_tests))
  ]

pub lowering_all : (s : ℕ) (above : ℕ → Bool) (rest low : ℕ) → rest ≡ 0 → Lowering s above rest low → Low s above low
lowering_all s above rest low e i n = i n ∙ ap (λ z. has s n && (z || not (above n))) (ap (λ z. has z n) e ∙ has_none n)
