-- The lowest line of a set.
use Rattle.std.proofs.Common.{◌≡◌, ℕ, zero, suc, ◌/◌, ◌%◌, ◌^◌, ◌<◌, false, ◌⊎◌, ◌≢◌, sym, ◌∙◌, inl, inr, arith}
use lib.Count.{count_trailing_zeros, under}
use Rattle.std.proofs.lemmas.Bool.{cases_eq}
use Rattle.lines.specs.Sets.{has, Lowest}
use Rattle.lines.proofs.Laws.{has-suc, has-zero}

-- one bit more below
module _ (k s : ℕ) where
  even : s % 2 ≡ 0 → has s 0 ≡ false
  even e = has-zero s ∙ (rw e)

  below : (t : ℕ) → s % 2 ≡ 0 → Lowest (s / 2) t → (m : ℕ) → m < suc t → has s m ≡ false
  below t e l zero h = even e
  below t e l (suc m) h = sym (has-suc s m) ∙ l.least m (omega arith)

  lowest_step : (s % 2 ≡ 0) ⊎ (s % 2 ≢ 0) → (s % 2 ≡ 0 → (count_trailing_zeros k (s / 2) < k) × Lowest (s / 2) (count_trailing_zeros k (s / 2)))
      → (under (s % 2) (count_trailing_zeros k (s / 2)) < suc k) × Lowest s (under (s % 2) (count_trailing_zeros k (s / 2)))
  lowest_step (inl e) r =
      rw e (omega (arith, (r e).0), record { one = sym (has-suc s _) ∙ (r e).1.one; least = below _ e (r e).1 })
  lowest_step (inr d) r = let e : s % 2 ≡ 1 = omega arith in rw e (omega arith, record { one = has-zero s ∙ (rw e); least = λ m h. absurd (omega arith) })

-- among k bits it is the number of zeros below it
pub lowest_at : (k s : ℕ) → s < 2 ^ k → (s ≡ 0 → ⊥) → (count_trailing_zeros k s < k) × Lowest s (count_trailing_zeros k s)
unfolding count_trailing_zeros
lowest_at zero s b d = absurd (d (omega arith))
lowest_at (suc k) s b d = lowest_step k s (cases_eq (s % 2) 0) (λ e. lowest_at k (s / 2) (omega arith) (λ z. d (omega arith)))
