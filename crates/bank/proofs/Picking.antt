-- What a controller does by picking from its registers.
use Rattle.std.proofs.Common.{◌≡◌, ℕ, Bool, true, cond, Some, None, Ok, Err, refl, ap, ◌∙◌}
use Rattle.lines.specs.Sets.{has, minus, Within}
use Rattle.lines.proofs.Laws.{has_none}
use Rattle.lines.proofs.Algebra.{in_minus, minus_in, empty_from, common_within}
use Rattle.controller.specs.declared.fault.Raised.TheVariants.{New, Merged}
use Rattle.controller.specs.declared.fault.ControllerFault.TheVariants.{NothingInService}
use Rattle.controller.specs.View.{View, Sound, ahead_by, Deliverable, set_masked}
use Rattle.controller.specs.Calls.{Raises, Masks, Takes, Ends}
use Rattle.controller.specs.Picks.{Picks, Over}
use Rattle.bank.specs.Contents.{Contents, bank_view, latched, mask_written, acknowledged, retired}

module _ (wired : ℕ) (order : ℕ → ℕ → Bool) (c d : Contents) where
  abbrev was : View
  was = bank_view wired order c

  abbrev is : View
  is = bank_view wired order d

  pub raises : (n : ℕ) → has wired n ≡ true → d ≡ latched wired c n → Raises was n (Ok (cond (has c.pending n) Merged New)) is
  raises n h e = (h, refl, ap (bank_view wired order) (e ∙ (rw h)))

  pub masks : (s : ℕ) → Within s wired → d ≡ mask_written wired c s → Masks was s (Ok tt) is
  masks s h e = (h, ap (bank_view wired order) e ∙ ap (set_masked was) (common_within s wired h))

  deliverable_from : (n : ℕ) → Over order (minus c.pending c.masked) c.in_service n → Deliverable was n
  deliverable_from n h =
      let p = in_minus _ _ n h.0 in
      record { pends = p.0; unmasked = p.1; unblocked = has_none n; over = h.1 }

  over_from : (n : ℕ) → Deliverable was n → Over order (minus c.pending c.masked) c.in_service n
  over_from n o = (minus_in _ _ n o.pends o.unmasked, o.over)

  pub takes_none : Picks (ahead_by order) (Over order (minus c.pending c.masked) c.in_service) None → Takes was None was
  takes_none h = (λ n o. h n (over_from n o), refl)

  pub takes_some : Sound was → (n : ℕ) → Picks (ahead_by order) (Over order (minus c.pending c.masked) c.in_service) (Some n)
      → d ≡ acknowledged wired c n → Takes was (Some n) is
  takes_some s n h e =
      let p = deliverable_from n h.one in
      let l : has wired n ≡ true = s.pending_in n p.pends in
      (record { one = p; before = λ m o. h.before m (over_from m o) }, ap (bank_view wired order) (e ∙ (rw l)))

  pub ends_some : (n : ℕ) → Picks (ahead_by order) (λ m. has c.in_service m ≡ true) (Some n) → d ≡ retired c n → Ends was (Ok n) is
  ends_some n h e = (h, ap (bank_view wired order) e)

  pub ends_none : Picks (ahead_by order) (λ m. has c.in_service m ≡ true) None → Ends was (Err NothingInService) was
  ends_none h = (empty_from _ h, refl, refl)
