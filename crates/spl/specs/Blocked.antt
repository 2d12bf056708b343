-- What the spl layer tells, through each of its calls.
use Rattle.std.specs.Prelude.{◌≡◌, ℕ, Bool, true, false, not, ◌&&◌, Some, None, Ok, Err, Option, Result, refl}
use Rattle.std.proofs.Common.{sym, ap, subst, ◌∙◌, inl, inr}
use Rattle.std.proofs.lemmas.Bool.{or_cases, or_parts, or_from, and_parts}
use Rattle.lines.specs.Sets.{has, union, Within}
use Rattle.lines.proofs.Laws.{has-union, has_none}
use Rattle.lines.proofs.Algebra.{union_none}
use Rattle.controller.specs.declared.fault.ControllerFault.{ControllerFault}
use Rattle.controller.specs.View.{View, Sound, Deliverable, taken, set_masked, set_blocked}
use Rattle.controller.specs.Calls.{Masks, Takes}
use Rattle.controller.proofs.Keeps.{masked_sound, blocked_sound}
use Rattle.spl.specs.Blocking.{Low, spl_view, Blocking}

-- the low lines are lines of the controller
pub low_in : (lines : ℕ) (above : ℕ → Bool) (low : ℕ) → Low lines above low → Within low lines
low_in lines above low l n h = (and_parts _ _ (sym (l n) ∙ h)).0

-- at a level that every line is above no line is low
pub low_none : (lines : ℕ) (above : ℕ → Bool) → ((n : ℕ) → above n ≡ true) → Low lines above 0
low_none lines above h n = has_none n ∙ sym (at (has lines n) (above n) (h n)) where
  at : (x y : Bool) → y ≡ true → (x && not y) ≡ false
  at true y e = ap not e
  at false y e = refl

both_in : (s t lines : ℕ) → Within s lines → Within t lines → Within (union s t) lines
both_in s t lines a b n x = elim (or_cases _ _ (sym (has-union s t n) ∙ x)) [ inl y ↦ a n y | inr y ↦ b n y ]

-- the layer as it is made
pub made_told : (v : View) → spl_view v v.masked 0 ≡ v
made_told v = ap (set_blocked v) (union_none v.blocked)

pub made_consistent : (v : View) (above : ℕ → Bool) → Sound v → ((n : ℕ) → above n ≡ true) → Blocking v above v.masked 0
made_consistent v above o h =
    record { mask = sym (union_none v.masked); own_in = o.masked_in; low_are = low_none v.lines above h }

module _ (v : View) (above : ℕ → Bool) (own low : ℕ) (i : Blocking v above own low) where
  low_lines : Within low v.lines
  low_lines = low_in v.lines above low i.low_are

  pub spl_sound : Sound v → Sound (spl_view v own low)
  spl_sound o =
      blocked_sound _ (masked_sound v o own i.own_in) (union v.blocked low) (both_in v.blocked low v.lines o.blocked_in low_lines)

  -- a line is deliverable here exactly when it is below
  to_below : (n : ℕ) → Deliverable (spl_view v own low) n → Deliverable v n
  to_below n p =
      let q = or_parts _ _ (sym (has-union v.blocked low n) ∙ p.unblocked) in
      record { pends = p.pends; unmasked = rw i.mask (has-union own low n ∙ or_from _ _ p.unmasked q.1); unblocked = q.0; over = p.over }

  from_below : (n : ℕ) → Deliverable v n → Deliverable (spl_view v own low) n
  from_below n p =
      let m : has (union own low) n ≡ false = subst (λ z. has z n ≡ false) i.mask p.unmasked in
      let q = or_parts _ _ (sym (has-union own low n) ∙ m) in
      record { pends = p.pends; unmasked = q.0; unblocked = has-union v.blocked low n ∙ or_from _ _ p.unblocked q.1; over = p.over }

  pub take_told : (r : Option ℕ) (w : View) → Takes v r w → Takes (spl_view v own low) r (spl_view w own low)
  take_told None w t = (λ n p. t.0 n (to_below n p), ap (λ z. spl_view z own low) t.1)
  take_told (Some n) w t =
      (record { one = from_below n t.0.one; before = λ m p. t.0.before m (to_below m p) }, ap (λ z. spl_view z own low) t.1)

  -- a view with the lines and the mask that there were
  keeps_to : (u w : View) → w ≡ u → u.masked ≡ v.masked → u.lines ≡ v.lines → Blocking w above own low
  keeps_to u w e m l =
      subst (λ z. Blocking z above own low) (sym e) (record {
        mask = m ∙ i.mask;
        own_in = subst (Within own) (sym l) i.own_in;
        low_are = subst (λ z. Low z above low) (sym l) i.low_are;
      })

  pub take_consistent : (r : Option ℕ) (w : View) → Takes v r w → Blocking w above own low
  take_consistent None w t = keeps_to v w t.1 refl refl
  take_consistent (Some n) w t = keeps_to (taken v n) w t.1 refl refl

-- the mask below is written: own mask and low lines both within the lines
module _ (v : View) (above : ℕ → Bool) (own low : ℕ) (own_in : Within own v.lines) (low_are : Low v.lines above low) where
  pub written : (r : Result (Unit {0}) ControllerFault) (w : View) → Masks v (union own low) r w → (r ≡ Ok tt) × (w ≡ set_masked v (union own low))
  written (Ok a) w m = (refl, m.1)
  written (Err e) w m = absurd (m.0 (both_in own low v.lines own_in (low_in v.lines above low low_are)))

  pub written_consistent : (w : View) → w ≡ set_masked v (union own low) → Blocking w above own low
  written_consistent w e = subst (λ z. Blocking z above own low) (sym e) (record { mask = refl; own_in = own_in; low_are = low_are })
