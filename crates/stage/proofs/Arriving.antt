-- One arrival.
use Rattle.std.proofs.Common.{◌≡◌, ℕ, Bool, true, false, ◌&&◌, eqb, Some, Ok, Err, Result, sym, ap, ◌∙◌, inl, inr, arith}
use Rattle.std.proofs.lemmas.Bool.{cases_Bool, eqb-true}
use Rattle.std.proofs.lemmas.Bool.Decides.{nat_tests}
use Rattle.lines.specs.Sets.{has, union, common, only}
use Rattle.lines.proofs.Laws.{ext, has-union, has-common, has-only}
use Rattle.controller.specs.declared.fault.ControllerFault.{ControllerFault}
use Rattle.controller.specs.declared.fault.Raised.{Raised}
use Rattle.controller.specs.View.{View, Sound, set_pending}
use Rattle.controller.specs.Calls.{Raises, Takes, Ends}
use Rattle.model.specs.Stage.{StageModel, Through, set_own}
use Rattle.controller.proofs.Served.{taken_ended}
use Rattle.stage.specs.Gates.{Passed, reached}

pub passing : (v u x : View) (n : ℕ) (r : Result ℕ ControllerFault) → Sound v → Takes v (Some n) u → Ends u r x → Passed v (Some n) x
passing v u x n r o t e = (t.0, (taken_ended v o n t.0.one r u x t.1 e).1, o.small n (o.pending_in n t.0.one.pends))

module _ (w r l n : ℕ) where
  at_line : (m : ℕ) (b : Bool) → (has r n && has l n) ≡ b → (eqb m n && (has r m && has l m)) ≡ (eqb m n && b)
  at_line m b e =
      elim (cases_Bool (eqb m n)) [
        | inl q ↦ ap (λ z. eqb m n && (has r z && has l z)) (eqb-true m n q) ∙ ap (λ z. eqb m n && z) e
        | inr q ↦ ap (λ z. z && (has r m && has l m)) q ∙ sym (ap (λ z. z && b) q)
      ]

  reach_in : has r n ≡ true → has l n ≡ true → union w (only n) ≡ union w (common (only n) (common r l))
  reach_in h k =
      let i : (has r n && has l n) ≡ true = ap (λ z. z && has l n) h ∙ k in
      ext _ _ (λ m. let z = at_line m true i in simp (has-union, has-common, has-only) (grind (arith, nat_tests)))

  reach_out : (has r n && has l n) ≡ false → w ≡ union w (common (only n) (common r l))
  reach_out i = ext _ _ (λ m. let z = at_line m false i in simp (has-union, has-common, has-only) (grind (arith, nat_tests)))

-- the stage with another set of pending lines
abbrev with_pending : StageModel → ℕ → StageModel
with_pending s w = set_own s (set_pending s.own w)

pub reaches : (s s' : StageModel) (routed n : ℕ) (r : Result Raised ControllerFault) → has routed n ≡ true → Through (λ v. Raises v n) s r s' → s' ≡ reached s routed n
reaches s s' routed n (Ok a) h (w, x, e) =
    e ∙ ap (λ z. set_own s (record { lines = z.lines; above = z.above; pending = z.pending; masked = z.masked; blocked = s.own.blocked; in_service = z.in_service })) x.2
    ∙ ap (with_pending s) (reach_in s.own.pending routed s.own.lines n h x.0)
reaches s s' routed n (Err d) h (w, x, e) =
    e ∙ ap (λ z. set_own s (record { lines = z.lines; above = z.above; pending = z.pending; masked = z.masked; blocked = s.own.blocked; in_service = z.in_service })) x.2
    ∙ ap (with_pending s) (reach_out s.own.pending routed s.own.lines n (ap (λ z. z && has s.own.lines n) h ∙ x.0))

pub stays_away : (s : StageModel) (routed n : ℕ) → has routed n ≡ false → s ≡ reached s routed n
stays_away s routed n h = ap (with_pending s) (reach_out s.own.pending routed s.own.lines n (ap (λ z. z && has s.own.lines n) h))
