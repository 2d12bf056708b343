-- Whether a stage has a line in service or deliverable.
use Rattle.std.proofs.Common.{◌≡◌, ℕ, Bool, true, false, not, Decides, sym, refl, ap, ◌∙◌, inl, inr}
use lib.Count.{count_trailing_zeros}
use Rattle.std.proofs.lemmas.Bool.{both_ways}
use Rattle.lines.specs.Sets.{has, minus}
use Rattle.lines.proofs.Laws.{has_none, below_power}
use Rattle.lines.proofs.Algebra.{in_minus, minus_in}
use Rattle.lines.proofs.Lowest.{lowest_at}
use Rattle.controller.specs.View.{View, Deliverable}
use Rattle.model.specs.Stage.{StageModel, told}
use Rattle.stage.specs.Gates.{Occupied}

-- a set that is not empty has a line
some_in : (s : ℕ) → (s ≡ 0 → ⊥) → (n : ℕ) × (has s n ≡ true)
some_in s h = let l = lowest_at s s (below_power s) h in (count_trailing_zeros s s, l.1.one)

none_in : (s n : ℕ) → s ≡ 0 → has s n ≡ true → ⊥
none_in s n e h = both_ways _ (has_none n) (sym (ap (λ x. has x n) e) ∙ h)

pub serving_occupied : (s : StageModel) (i : ℕ) → i ≡ (told s).in_service → (i ≡ 0 → ⊥) → Occupied s
serving_occupied s i e h = let x = some_in i h in (x.0, inl (sym (ap (λ z. has z x.0) e) ∙ x.1))

-- the lines that are pending and neither masked nor blocked
abbrev ready : View → ℕ
ready v = minus (minus v.pending v.masked) v.blocked

ready_deliverable : (v : View) → v.in_service ≡ 0 → (n : ℕ) → has (ready v) n ≡ true → Deliverable v n
ready_deliverable v e n h =
    let p = in_minus (minus v.pending v.masked) v.blocked n h in
    let q = in_minus v.pending v.masked n p.0 in
    record { pends = q.0; unmasked = q.1; unblocked = p.1; over = λ m k. absurd (none_in v.in_service m e k) }

deliverable_ready : (v : View) (n : ℕ) → Deliverable v n → has (ready v) n ≡ true
deliverable_ready v n d =
    minus_in (minus v.pending v.masked) v.blocked n (minus_in v.pending v.masked n d.pends d.unmasked) d.unblocked

pub ready_occupied : (s : StageModel) (p : ℕ) (b : Bool) → (told s).in_service ≡ 0 → p ≡ ready (told s) → Decides b (p ≡ 0) → Decides (not b) (Occupied s)
ready_occupied s p true e q d = (
  λ x. absurd (both_ways _ refl x),
  λ o. absurd (none o),
)
  where
    none : Occupied s → ⊥
    none (n, inl k) = none_in (told s).in_service n e k
    none (n, inr k) = none_in (ready (told s)) n (sym q ∙ d.0 refl) (deliverable_ready (told s) n k)
ready_occupied s p false e q d = (
  λ x. let y = some_in p (λ z. both_ways _ refl (d.1 z)) in (y.0, inr (ready_deliverable (told s) e y.0 (sym (ap (λ z. has z y.0) q) ∙ y.1))),
  λ o. refl,
)
