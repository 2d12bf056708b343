-- A take of the optimistic layer, line after line.
use Rattle.std.proofs.Common.{◌≡◌, ℕ, ◌<◌, Bool, true, false, ◌⊎◌, Some, None, Ok, Err, Decides, Result, sym, refl, ap, ◌∙◌, subst, inl, inr, arith}
use Rattle.std.proofs.lemmas.Bool.Decides.{nat_tests}
use Rattle.std.proofs.lemmas.Bool.{both_ways, or_parts, or_left, or_right}
use Rattle.lines.specs.Sets.{has, union, minus, only, Within, with_line}
use Rattle.lines.proofs.Laws.{has-union, has-minus}
use Rattle.lines.proofs.Algebra.{without_right, minus_more, minus_self, moved_all, less, in_minus, minus_in, with_small}
use Rattle.controller.specs.declared.fault.ControllerFault.{ControllerFault}
use Rattle.controller.specs.View.{View, Sound, First, Deliverable, ahead, taken, set_masked, set_pending, set_in_service}
use Rattle.controller.specs.Calls.{Masks, Takes, Ends}
use Rattle.controller.proofs.Order.{order_of}
use Rattle.controller.proofs.Keeps.{in_with, in_less, with_in}
use Rattle.controller.proofs.Served.{taken_ended}
use Rattle.optimistic.specs.Logging.{logged, Logging, SetAside, Logs, aside}

not_with : (s n m : ℕ) → has (union s (only n)) m ≡ false → has s m ≡ false
not_with s n m h = (or_parts _ _ (sym (has-union s (only n) m) ∙ h)).0

-- a deliverable line put into a set of 64 lines
pub with_deliverable : (v : View) → Sound v → (n : ℕ) → Deliverable v n → (s : ℕ) → with_line 64 s n ≡ union s (only n)
with_deliverable v o n p s = with_small 64 s n (o.small n (o.pending_in n p.pends))

-- the lines set aside so far: v and log are what is below and in the log by now, v₀ and log₀ what was at first
pub record Aside (v₀ : View) (soft log₀ : ℕ) (v : View) (log : ℕ) : Type 0 where
  pub view : v ≡ aside v₀ log₀ log
  pub grows : Within log₀ log
  pub new : (m : ℕ) → has log m ≡ true → has log₀ m ≡ false → (has soft m ≡ true) × Deliverable v₀ m × ((k : ℕ) → Deliverable v k → ahead v₀ k m ≡ false)

module _ (v₀ : View) (soft log₀ : ℕ) (i₀ : Logging v₀ soft log₀) where
  pub aside_none : Aside v₀ soft log₀ v₀ log₀
  aside_none =
      record {
        view = ap (set_masked v₀) i₀.mask ∙ ap (λ s. set_masked (set_pending v₀ s) log₀) (sym (minus_self v₀.pending log₀));
        grows = λ m h. h;
        new = λ m h f. absurd (both_ways _ f h);
      }

  module _ (v : View) (log : ℕ) (a : Aside v₀ soft log₀ v log) where
    inside_at : (m : ℕ) (x : Bool) → has log₀ m ≡ x → has log m ≡ true → has soft m ≡ true
    inside_at m true e h = i₀.inside m e
    inside_at m false e h = (a.new m h e).0

    pub aside_consistent : Logging v soft log
    aside_consistent =
        record {
          mask = ap (λ z. z.masked) a.view;
          inside = λ m h. inside_at m _ refl h;
          soft_in = subst (λ z. Within soft z.lines) (sym a.view) i₀.soft_in;
        }

    -- a line deliverable by now was deliverable at first
    pub deliverable_first : (m : ℕ) → Deliverable v m → Deliverable v₀ m
    deliverable_first m p =
        let q : Deliverable (aside v₀ log₀ log) m = subst (λ z. Deliverable z m) a.view p in
        record {
          pends = in_less _ _ m q.pends;
          unmasked = rw i₀.mask (let g = a.grows m in let u = q.unmasked in grind (arith, nat_tests));
          unblocked = q.unblocked;
          over = q.over;
        }

    -- a line deliverable at first and not set aside is still deliverable
    pub deliverable_still : (m : ℕ) → Deliverable v₀ m → has log m ≡ false → Deliverable v m
    deliverable_still m p f =
        let q : Deliverable (aside v₀ log₀ log) m = record {
          pends = minus_in _ _ m p.pends (simp has-minus (grind (arith, nat_tests)));
          unmasked = f;
          unblocked = p.unblocked;
          over = p.over;
        } in
        subst (λ z. Deliverable z m) (sym a.view) q

    waited : Within (minus log log₀) v₀.pending
    waited m h = let p = in_minus log log₀ m h in (a.new m p.0 p.1).1.pends

    -- what the layer tells is as it was
    pub aside_told : logged v soft log ≡ logged v₀ soft log₀
    aside_told = ap (λ z. logged z soft log) a.view ∙ ap (λ s. set_masked (set_pending v₀ s) soft) (moved_all v₀.pending log log₀ a.grows waited)

    -- one line more
    module _ (o : Sound v) (n : ℕ) (f : First (ahead v) (Deliverable v) n) (s : has soft n ≡ true) where
      log_grows : Within (union log (only n)) v.lines
      log_grows = with_in log n v.lines (λ m h. aside_consistent.soft_in m (aside_consistent.inside m h)) (aside_consistent.soft_in n s)

      not_logged : has log n ≡ false
      not_logged = subst (λ z. has z n ≡ false) aside_consistent.mask f.one.unmasked

      not_before : (x : Bool) → has log₀ n ≡ x → has log₀ n ≡ false
      not_before true e = absurd (both_ways _ not_logged (a.grows n e))
      not_before false e = e

      deliverable_shrinks : (w : View) → w ≡ set_masked (set_pending v (minus v.pending (only n))) (union log (only n)) → (k : ℕ) → Deliverable w k → Deliverable v k
      deliverable_shrinks w e k p =
          let q : Deliverable (set_masked (set_pending v (minus v.pending (only n))) (union log (only n))) k = subst (λ z. Deliverable z k) e p in
          record {
            pends = in_less _ _ k q.pends;
            unmasked = rw aside_consistent.mask (not_with log n k q.unmasked);
            unblocked = q.unblocked;
            over = q.over;
          }

      stepped_new : (w : View) → w ≡ set_masked (set_pending v (minus v.pending (only n))) (union log (only n))
          → (m : ℕ) → has (union log (only n)) m ≡ true → has log₀ m ≡ false → (has soft m ≡ true) × Deliverable v₀ m × ((k : ℕ) → Deliverable w k → ahead v₀ k m ≡ false)
      stepped_new w e m h z = elim (in_with log n m h) [
        | inl x ↦ let q = a.new m x z in (q.0, q.1, λ k p. q.2 k (deliverable_shrinks w e k p))
        | inr d ↦ (
          subst (λ y. has soft y ≡ true) (sym d) s,
          subst (Deliverable v₀) (sym d) (deliverable_first n f.one),
          λ k p. subst (λ y. ahead v₀ k y ≡ false) (sym d) (subst (λ u. ahead u k n ≡ false) a.view (f.before k (deliverable_shrinks w e k p))),
        )
      ]

      stepped : (w : View) → w ≡ set_masked (set_pending v (minus v.pending (only n))) (union log (only n)) → Aside v₀ soft log₀ w (union log (only n))
      stepped w e =
          record {
            view = e ∙ ap (λ z. set_masked (set_pending z (minus z.pending (only n))) (union log (only n))) a.view
                ∙ ap (λ x. set_masked (set_pending v₀ x) (union log (only n))) (minus_more v₀.pending log log₀ n (not_before _ refl));
            grows = λ m h. has-union log (only n) m ∙ or_left _ _ (a.grows m h);
            new = stepped_new w e;
          }

      masked_to : (t : Result ℕ ControllerFault) (r : Result (Unit {0}) ControllerFault) (w₁ w₂ w₃ : View) → w₁ ≡ taken v n → Ends w₁ t w₂ → Masks w₂ (union log (only n)) r w₃
          → w₃ ≡ set_masked (set_pending v (minus v.pending (only n))) (union log (only n))
      masked_to t (Ok x) w₁ w₂ w₃ e h k = k.1 ∙ ap (λ z. set_masked z (union log (only n))) (taken_ended v o n f.one t w₁ w₂ e h).1
      masked_to t (Err x) w₁ w₂ w₃ e h k =
          absurd (k.0 (subst (λ z. Within (union log (only n)) z.lines) (sym (taken_ended v o n f.one t w₁ w₂ e h).1) log_grows))

      pub aside_more : (t : Result ℕ ControllerFault) (r : Result (Unit {0}) ControllerFault) (w₁ w₂ w₃ : View) → w₁ ≡ taken v n → Ends w₁ t w₂ → Masks w₂ (union log (only n)) r w₃
          → Aside v₀ soft log₀ w₃ (union log (only n))
      aside_more t r w₁ w₂ w₃ e h k = stepped w₃ (masked_to t r w₁ w₂ w₃ e h k)

      -- fewer lines are pending below
      pub aside_less : (t : Result ℕ ControllerFault) (r : Result (Unit {0}) ControllerFault) (w₁ w₂ w₃ : View) → w₁ ≡ taken v n → Ends w₁ t w₂ → Masks w₂ (union log (only n)) r w₃
          → w₃.pending < v.pending
      aside_less t r w₁ w₂ w₃ e h k = rw (masked_to t r w₁ w₂ w₃ e h k) (less v.pending n f.one.pends)

    -- a deliverable line of the layer is deliverable below
    deliverable_below : (m : ℕ) → Deliverable (logged v soft log) m → Deliverable v m
    deliverable_below m p =
        let i = aside_consistent.inside m in
        let l : has log m ≡ false = let u = p.unmasked in grind (arith, nat_tests) in
        record {
          pends = let w = p.pends in let e = has-union log v.pending m in grind (arith, nat_tests);
          unmasked = rw aside_consistent.mask l;
          unblocked = p.unblocked;
          over = p.over;
        }

    -- no line is deliverable below
    pub take_none : ((m : ℕ) → Deliverable v m → ⊥) → (w : View) → w ≡ v → Takes (logged v₀ soft log₀) None (logged w soft log)
    take_none h w e =
        (λ m p. h m (deliverable_below m (subst (λ z. Deliverable z m) (sym aside_told) p)), ap (λ z. logged z soft log) e ∙ aside_told)

    logs_none_at : ((m : ℕ) → Deliverable v m → ⊥) → (m : ℕ) (x y : Bool) → has log m ≡ x → has log₀ m ≡ y → Decides (has log m) ((has log₀ m ≡ true) ⊎ SetAside v₀ soft None m)
    logs_none_at h m true true e d = (λ t. inl d, λ q. e)
    logs_none_at h m true false e d = (λ t. inr (let q = a.new m e d in (q.0, q.1)), λ q. e)
    logs_none_at h m false y e d =
        (λ t. absurd (both_ways _ e t), λ q. elim q [ inl g ↦ a.grows m g | inr s ↦ absurd (h m (deliverable_still m s.1 e)) ])

    pub logs_none : ((m : ℕ) → Deliverable v m → ⊥) → Logs v₀ soft log₀ None log
    logs_none h m = logs_none_at h m _ _ refl refl

    -- a line is deliverable below that is not in the soft mask
    module _ (o : Sound v) (n : ℕ) (f : First (ahead v) (Deliverable v) n) (s : has soft n ≡ false) where
      unlogged : (x : Bool) → has log n ≡ x → has log n ≡ false
      unlogged true e = absurd (both_ways _ s (aside_consistent.inside n e))
      unlogged false e = e

      first_deliverable : First (ahead v) (Deliverable (logged v soft log)) n
      first_deliverable =
          record {
            one = record {
              pends = has-union log v.pending n ∙ or_right _ _ f.one.pends;
              unmasked = s;
              unblocked = f.one.unblocked;
              over = f.one.over;
            };
            before = λ m p. f.before m (deliverable_below m p);
          }

      taken_told : logged (taken v n) soft log ≡ taken (logged v soft log) n
      taken_told = ap (λ x. set_masked (set_in_service (set_pending v x) (union v.in_service (only n))) soft) (without_right log v.pending n (unlogged _ refl))

      pub take_some : (w : View) → w ≡ taken v n → Takes (logged v₀ soft log₀) (Some n) (logged w soft log)
      take_some w e =
          subst (λ z. Takes z (Some n) (logged w soft log)) aside_told (first_deliverable, ap (λ z. logged z soft log) e ∙ taken_told)

      pub consistent_some : (w : View) → w ≡ taken v n → Logging w soft log
      consistent_some w e = subst (λ z. Logging z soft log) (sym e) (record { mask = aside_consistent.mask; inside = aside_consistent.inside; soft_in = aside_consistent.soft_in })

      same_order : ahead v ≡ ahead v₀
      same_order = ap ahead a.view

      ahead_of : (m : ℕ) (x : Bool) → ahead v₀ m n ≡ x → has soft m ≡ true → ahead v₀ n m ≡ false → ahead v₀ m n ≡ true
      ahead_of m true e h k = e
      ahead_of m false e h k =
          let d : m ≡ n = (order_of v o).connected m n (subst (λ u. u m n ≡ false) (sym same_order) e) (subst (λ u. u n m ≡ false) (sym same_order) k) in
          absurd (both_ways _ s (subst (λ z. has soft z ≡ true) d h))

      logs_some_at : (m : ℕ) (x y : Bool) → has log m ≡ x → has log₀ m ≡ y → Decides (has log m) ((has log₀ m ≡ true) ⊎ SetAside v₀ soft (Some n) m)
      logs_some_at m true true e d = (λ t. inl d, λ q. e)
      logs_some_at m true false e d = (λ t. inr (let q = a.new m e d in (q.0, q.1, ahead_of m _ refl q.0 (q.2 n f.one))), λ q. e)
      logs_some_at m false y e d = (
        λ t. absurd (both_ways _ e t),
        λ q. elim q [
          | inl g ↦ a.grows m g
          | inr z ↦ absurd (both_ways _ (subst (λ u. u m n ≡ false) same_order (f.before m (deliverable_still m z.1 e))) z.2)
        ],
      )

      pub logs_some : Logs v₀ soft log₀ (Some n) log
      logs_some m = logs_some_at m _ _ refl refl
