-- Registers that have all 64 lines.
use Rattle.std.proofs.Common.{◌≡◌, ℕ, ◌^◌, ◌<◌, Bool, true, false, cond, ltb, sym, ◌∙◌, inl, inr, arith}
use Rattle.std.proofs.lemmas.Bool.{cases_lt, lt-ltb, le-ltb}
use Rattle.lines.specs.Sets.{has, union, minus, only, with_line}
use Rattle.lines.proofs.Laws.{has_all, has_small, not_has, without_none}
use Rattle.lines.proofs.Algebra.{common_within}
use Rattle.bank.specs.Contents.{Contents, all_lines, latched, mask_written, acknowledged}

same : (c d : Contents) → c.pending ≡ d.pending → c.masked ≡ d.masked → c.in_service ≡ d.in_service → c ≡ d
same c d p m s = λ i. record { pending = p i; masked = m i; in_service = s i }

-- a number is a line below 64
pub has_every : (n : ℕ) → has all_lines n ≡ ltb n 64
has_every n = elim (cases_lt n 64) [
  | inl l ↦ has_all n l ∙ sym (lt-ltb n 64 l)
  | inr g ↦ not_has 64 all_lines n (omega arith) g ∙ sym (le-ltb n 64 g)
]

pub some_line : all_lines ≡ 0 → ⊥
some_line e = omega arith

-- what was written is d: a line put in among the pending ones
module _ (c d : Contents) (n : ℕ) (m : d.masked ≡ c.masked) where
  pub latched_all : d.pending ≡ with_line 64 c.pending n → d.in_service ≡ c.in_service → d ≡ latched all_lines c n
  latched_all p s = rw (has_every n) (at (ltb n 64) p) where
    at : (x : Bool) → d.pending ≡ cond x (union c.pending (only n)) c.pending
        → d ≡ cond x (record { pending = union c.pending (only n); masked = c.masked; in_service = c.in_service }) c
    at true p = same _ _ p m s
    at false p = same _ _ p m s

  -- a line moved into service
  pub acknowledged_all : c.pending < 2 ^ 64 → d.pending ≡ minus c.pending (only n) → d.in_service ≡ with_line 64 c.in_service n → d ≡ acknowledged all_lines c n
  acknowledged_all b p s = elim (cases_lt n 64) [
    | inl l ↦ rw (has_all n l) (same _ _ p m (s ∙ (rw (lt-ltb n 64 l))))
    | inr g ↦ rw (not_has 64 all_lines n (omega arith) g) (same _ _ (p ∙ sym (without_none 64 c.pending n b g)) m (s ∙ (rw (le-ltb n 64 g))))
  ]

-- the set written is the mask
pub masked_all : (c d : Contents) (s : ℕ) → s < 2 ^ 64 → d.pending ≡ c.pending → d.masked ≡ s → d.in_service ≡ c.in_service → d ≡ mask_written all_lines c s
masked_all c d s b p m v = same _ _ p (m ∙ sym (common_within s all_lines (λ n h. has_all n (has_small 64 s n b h)))) v
