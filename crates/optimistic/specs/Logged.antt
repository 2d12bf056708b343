-- What the optimistic layer tells, through each of its calls.
use Rattle.std.specs.Prelude.{◌≡◌, ℕ, true, false, cond, Some, None, Option, Ok, Err, Result, refl}
use Rattle.std.proofs.Common.{sym, ap, subst, ◌∙◌, inl, inr, arith}
use Rattle.std.proofs.lemmas.Bool.Decides.{nat_tests}
use Rattle.std.proofs.lemmas.Bool.{both_ways, or_cases, cond-true}
use Rattle.lines.specs.Sets.{has, union, common, minus, only, Within}
use Rattle.lines.proofs.Laws.{has-union, has-common, has_none, ext}
use Rattle.lines.proofs.Algebra.{with_present, union_assoc, split, union_none, from_within, common_within}
use Rattle.controller.specs.declared.fault.ControllerFault.{ControllerFault}
use Rattle.controller.specs.declared.fault.Raised.{Raised}
use Rattle.controller.specs.declared.fault.Raised.TheVariants.{New, Merged}
use Rattle.controller.specs.View.{View, Sound, set_masked, set_pending}
use Rattle.controller.specs.Calls.{Raises, Masks, Takes, Ends}
use Rattle.controller.proofs.Keeps.{pending_sound, masked_sound, in_less}
use Rattle.optimistic.specs.Logging.{logged, Logging, freed}

pub logged_sound : (v : View) (soft log : ℕ) → Sound v → Logging v soft log → Sound (logged v soft log)
logged_sound v soft log o i =
    masked_sound _ (pending_sound v o (union log v.pending) pending_in) soft i.soft_in where
      pending_in : Within (union log v.pending) v.lines
      pending_in n h = elim (or_cases _ _ (sym (has-union log v.pending n) ∙ h)) [ inl x ↦ i.soft_in n (i.inside n x) | inr x ↦ o.pending_in n x ]

module _ (v : View) (soft log : ℕ) (i : Logging v soft log) where
  -- a line in the log is raised again
  pub raise_logged : (n : ℕ) → has log n ≡ true → Raises (logged v soft log) n (Ok Merged) (logged v soft log)
  raise_logged n h =
      let t : has (union log v.pending) n ≡ true = rw (has-union log v.pending n, h) in
      (i.soft_in n (i.inside n h), sym (cond-true _ Merged New t), ap (λ s. set_masked (set_pending v s) soft) (sym (with_present (union log v.pending) n t)))

  -- any other is raised below
  pub raise_below : (n : ℕ) (r : Result Raised ControllerFault) (w : View) → has log n ≡ false → Raises v n r w → Raises (logged v soft log) n r (logged w soft log)
  raise_below n (Ok a) w f h =
      let e : has (union log v.pending) n ≡ has v.pending n = rw (has-union log v.pending n, f) in
      (h.0, h.1 ∙ ap (λ b. cond b Merged New) (sym e), rw h.2 (ap (λ s. set_masked (set_pending v s) soft) (union_assoc log v.pending (only n))))
  raise_below n (Err e) w f h = (h.0, h.1, ap (λ u. logged u soft log) h.2)

  pub raise_consistent : (n : ℕ) (r : Result Raised ControllerFault) (w : View) → Raises v n r w → Logging w soft log
  raise_consistent n (Ok a) w h = subst (λ u. Logging u soft log) (sym h.2) (record { mask = i.mask; inside = i.inside; soft_in = i.soft_in })
  raise_consistent n (Err e) w h = subst (λ u. Logging u soft log) (sym h.2) i

-- an end is made below
pub end_told : (v : View) (soft log : ℕ) (r : Result ℕ ControllerFault) (w : View) → Ends v r w → Ends (logged v soft log) r (logged w soft log)
end_told v soft log (Ok n) w h = (record { one = h.0.one; before = h.0.before }, ap (λ u. logged u soft log) h.1)
end_told v soft log (Err e) w h = (h.0, h.1, ap (λ u. logged u soft log) h.2)

pub end_consistent : (v : View) (soft log : ℕ) → Logging v soft log → (r : Result ℕ ControllerFault) (w : View) → Ends v r w → Logging w soft log
end_consistent v soft log i (Ok n) w h = subst (λ u. Logging u soft log) (sym h.1) (record { mask = i.mask; inside = i.inside; soft_in = i.soft_in })
end_consistent v soft log i (Err e) w h = subst (λ u. Logging u soft log) (sym h.2) i

-- a line is taken below
pub take_consistent : (v : View) (soft log : ℕ) → Logging v soft log → (r : Option ℕ) (w : View) → Takes v r w → Logging w soft log
take_consistent v soft log i (Some n) w h = subst (λ u. Logging u soft log) (sym h.1) (record { mask = i.mask; inside = i.inside; soft_in = i.soft_in })
take_consistent v soft log i None w h = subst (λ u. Logging u soft log) (sym h.1) i

-- the log becomes a part of the soft mask, and so does the mask below
pub log_consistent : (v : View) (soft log log' : ℕ) → Logging v soft log → Within log' soft → (r : Result (Unit {0}) ControllerFault) (w : View) → Masks v log' r w → Logging w soft log'
log_consistent v soft log log' i h (Ok a) w m = subst (λ u. Logging u soft log') (sym m.1) (record { mask = refl; inside = h; soft_in = i.soft_in })
log_consistent v soft log log' i h (Err e) w m = absurd (m.0 (λ n x. i.soft_in n (h n x)))

-- a part of the log is within the soft mask
pub part_in : (soft log set : ℕ) → Within log soft → Within (common log set) soft
part_in soft log set h n x = h n (let e = has-common log set n in grind (arith, nat_tests))

-- a mask within the lines
module _ (v : View) (soft log set : ℕ) (i : Logging v soft log) (in_lines : Within set v.lines) where
  log_in : Within (common log set) v.lines
  log_in n h = i.soft_in n (i.inside n (let e = has-common log set n in grind (arith, nat_tests)))

  pub freed_in : (r : Result (Unit {0}) ControllerFault) (w : View) → Masks v (common log set) r w → Within (minus log set) w.lines
  freed_in (Ok a) w h n x = subst (λ u. has u.lines n ≡ true) (sym h.1) (i.soft_in n (i.inside n (in_less log set n x)))
  freed_in (Err e) w h n x = absurd (h.0 log_in)

  -- it frees some logged lines: the mask below becomes the rest of the log, and they are raised
  pub freed_some : (r : Result (Unit {0}) ControllerFault) (w u : View) → Masks v (common log set) r w → u ≡ set_pending w (union w.pending (minus log set)) → u ≡ freed v log set
  freed_some (Ok a) w u h e = e ∙ ap (λ z. set_pending z (union z.pending (minus log set))) h.1
  freed_some (Err x) w u h e = absurd (h.0 log_in)

  -- it frees none: the log and what is below stay
  pub rest_all : Within log set → log ≡ common log set
  rest_all h = sym (common_within log set h)

  pub kept_consistent : Within log set → Logging v set log
  kept_consistent h = record { mask = i.mask; inside = h; soft_in = in_lines }

  pub freed_none : Within log set → v ≡ freed v log set
  freed_none h =
      ap (set_masked v) (i.mask ∙ rest_all h)
      ∙ ap (λ s. set_masked (set_pending v s) (common log set)) (sym (union_none v.pending) ∙ ap (union v.pending) (sym (from_within log set h)))

  module _ (w : View) (e : w ≡ freed v log set) where
    pub mask_told : logged w set (common log set) ≡ set_masked (logged v soft log) set
    mask_told = rw e (ap (λ s. set_masked (set_pending v s) set) (split log set v.pending))

    pub mask_consistent : Logging w set (common log set)
    mask_consistent =
        subst (λ z. Logging z set (common log set)) (sym e)
        (record { mask = refl; inside = λ n x. (let y = has-common log set n in grind (arith, nat_tests)); soft_in = in_lines })

-- the layer as it is made
module _ (v : View) (o : Sound v) where
  none_in : Within 0 v.lines
  none_in n h = absurd (both_ways _ (has_none n) h)

  pub made_view : (r : Result (Unit {0}) ControllerFault) (w : View) → Masks v 0 r w → w ≡ set_masked v 0
  made_view (Ok a) w h = h.1
  made_view (Err e) w h = absurd (h.0 none_in)

  pub made_consistent : (r : Result (Unit {0}) ControllerFault) (w : View) → Masks v 0 r w → Logging w v.masked 0
  made_consistent r w h =
      subst (λ z. Logging z v.masked 0) (sym (made_view r w h))
      (record { mask = refl; inside = λ n x. absurd (both_ways _ (has_none n) x); soft_in = o.masked_in })

  pub made_told : (r : Result (Unit {0}) ControllerFault) (w : View) → Masks v 0 r w → logged w v.masked 0 ≡ v
  made_told r w h = ap (λ z. logged z v.masked 0) (made_view r w h) ∙ ap (λ s. set_pending v s) (ext _ _ (λ n. simp (has-union, has_none) refl))
