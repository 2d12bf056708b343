-- The optimistic layer by itself.
use Rattle.std.proofs.Common.{◌≡◌, ℕ, ◌^◌, ◌<◌, Bool, true, ◌&&◌, ◌||◌, Some, None, Decides, Option, inl, inr, arith}
use Rattle.std.proofs.lemmas.Bool.{cases_lt, both_ways, and_parts, and_from}
use Rattle.std.proofs.lemmas.Bool.Decides.{Decides-or, Decides-at}
use Rattle.lines.specs.Sets.{has}
use Rattle.lines.proofs.Laws.{not_has}
use Rattle.controller.specs.View.{View, Sound, ahead}
use Rattle.optimistic.specs.Logging.{SetAside, Logs}
use Rattle.model.specs.Alone.{Act, Said, Acts, Soft, soft_told, SoftActs}
use Rattle.model.specs.Alone.Act.{raise, mask, take, end}
use Rattle.model.proofs.Computed.{every, every_true, same_test, same_true, is_deliverable, deliverable_test, test_deliverable}

pub soft_acts_told : (s t : Soft) (c : Act) (a : Said) → SoftActs s c a t → Acts (soft_told s) c a (soft_told t)
soft_acts_told s t (raise n) a p = record { result = p.result; does = p.does.0; answers = p.answers }
soft_acts_told s t (mask m) a p = record { result = p.result; does = p.does.0; answers = p.answers }
soft_acts_told s t take a p = record { result = p.result; does = p.does.0; answers = p.answers }
soft_acts_told s t end a p = record { result = p.result; does = p.does.0; answers = p.answers }

-- ---- the log after a take, by a test

abbrev aside_test : View → ℕ → Option ℕ → ℕ → Bool
aside_test v soft None m = has soft m && is_deliverable v m
aside_test v soft (Some n) m = (has soft m && is_deliverable v m) && ahead v m n

unfoldable pub logs_test : View → ℕ → ℕ → Option ℕ → ℕ → Bool
unfolding every is_deliverable
logs_test v soft log r log' = every 64 (λ m. same_test (has log' m) (has log m || aside_test v soft r m))

module _ (v : View) (o : Sound v) (soft log : ℕ) where
  aside_decides : (r : Option ℕ) (m : ℕ) → Decides (aside_test v soft r m) (SetAside v soft r m)
  aside_decides None m = (
    λ h. let p = and_parts (has soft m) _ h in (p.0, test_deliverable v o m p.1),
    λ q. and_from _ _ q.0 (deliverable_test v o m q.1),
  )
  aside_decides (Some n) m = (
    λ h. let p = and_parts (has soft m && is_deliverable v m) _ h in let q = and_parts (has soft m) _ p.0 in (q.0, test_deliverable v o m q.1, p.1),
    λ q. and_from _ _ (and_from _ _ q.0 (deliverable_test v o m q.1)) q.2,
  )

  aside_line : (r : Option ℕ) (m : ℕ) → SetAside v soft r m → m < 64
  aside_line None m q = o.small m (o.pending_in m q.1.pends)
  aside_line (Some n) m q = o.small m (o.pending_in m q.1.pends)

  pub logs_by : (r : Option ℕ) (log' : ℕ) → log < 2 ^ 64 → log' < 2 ^ 64 → logs_test v soft log r log' ≡ true → Logs v soft log r log'
  unfolding logs_test
  logs_by r log' b b' h m =
      elim (cases_lt m 64) [
        | inl l ↦
            let e = same_true (has log' m) (has log m || aside_test v soft r m) (every_true 64 (λ m. same_test (has log' m) (has log m || aside_test v soft r m)) h m l) in
            Decides-at (has log' m) (has log m || aside_test v soft r m) e (Decides-or (has log m) (aside_test v soft r m) (λ x. x, λ x. x) (aside_decides r m))
        | inr g ↦ (
          λ t. absurd (both_ways _ (not_has 64 log' m b' g) t),
          λ q. absurd (elim q [ inl x ↦ both_ways _ (not_has 64 log m b g) x | inr x ↦ let l = aside_line r m x in let z : ⊥ = omega arith in z ]),
        )
      ]
