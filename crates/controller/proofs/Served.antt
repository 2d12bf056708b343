-- A line that is taken and ended at once.
use Rattle.std.proofs.Common.{◌≡◌, ℕ, Bool, true, false, Ok, Err, Result, sym, refl, ap, ◌∙◌, subst, inl, inr, arith}
use Rattle.std.proofs.lemmas.Bool.Decides.{nat_tests}
use Rattle.std.proofs.lemmas.Bool.{both_ways}
use Rattle.lines.specs.Sets.{has, union, minus, only}
use Rattle.lines.proofs.Laws.{has-union, has-minus, has-only, has_none}
use Rattle.lines.proofs.Algebra.{back}
use Rattle.controller.specs.declared.fault.ControllerFault.{ControllerFault}
use Rattle.controller.specs.View.{View, Sound, First, Deliverable, Serving, ahead, taken, ended, set_pending, set_in_service}
use Rattle.controller.specs.Calls.{Ends}
use Rattle.controller.proofs.Order.{order_of, first_same}
use Rattle.controller.proofs.Keeps.{in_with}

-- the view without the request of line n
abbrev pub served : View → ℕ → View
served v n = set_pending v (minus v.pending (only n))

module _ (v : View) (o : Sound v) (n : ℕ) (p : Deliverable v n) where
  idle : (x : Bool) → has v.in_service n ≡ x → has v.in_service n ≡ false
  idle true e = absurd (both_ways _ ((order_of v o).not_self n) (p.over n e))
  idle false e = e

  there : has (union v.in_service (only n)) n ≡ true
  there = simp (has-union, has-only) (grind (arith, nat_tests))

  -- once taken it is the first in service
  first_serving : First (ahead v) (Serving (taken v n)) n
  first_serving =
      record {
        one = there;
        before = λ m h. elim (in_with _ n m h) [
          | inl x ↦ (order_of v o).lower m n (p.over m x)
          | inr e ↦ subst (λ z. ahead v z n ≡ false) (sym e) ((order_of v o).irreflexive n)
        ];
      }

  -- so the end is its own, and leaves all but its request as it was
  pub taken_ended : (r : Result ℕ ControllerFault) (w u : View) → w ≡ taken v n → Ends w r u → (r ≡ Ok n) × (u ≡ served v n)
  taken_ended (Ok m) w u e h =
      let f : First (ahead v) (Serving (taken v n)) m = subst (λ z. First (ahead z) (Serving z) m) e h.0 in
      let s : m ≡ n = first_same (ahead v) v.above (order_of v o) m n f first_serving in
      (ap Ok s, h.1 ∙ ap (λ z. ended z m) e ∙ ap (ended (taken v n)) s ∙ ap (set_in_service (served v n)) (back v.in_service n (idle _ refl)))
  taken_ended (Err x) w u e h =
      let z : union v.in_service (only n) ≡ 0 = subst (λ z. z.in_service ≡ 0) e h.0 in
      absurd (both_ways _ (has_none n) (subst (λ s. has s n ≡ true) z there))

-- the other deliverable lines stay so, and there are no new ones
module _ (v : View) (n m : ℕ) where
  pub still_deliverable : Deliverable v m → (m ≡ n → ⊥) → Deliverable (served v n) m
  still_deliverable p d =
      record {
        pends = let a = p.pends in simp (has-minus, has-only) (grind (arith, nat_tests));
        unmasked = p.unmasked;
        unblocked = p.unblocked;
        over = p.over;
      }

  pub was_deliverable : Deliverable (served v n) m → Deliverable v m × (m ≡ n → ⊥)
  was_deliverable p =
      let a = p.pends in
      let e = has-minus v.pending (only n) m in
      let f = has-only n m in
      (record { pends = grind (arith, nat_tests); unmasked = p.unmasked; unblocked = p.unblocked; over = p.over }, λ d. grind (arith, nat_tests))
