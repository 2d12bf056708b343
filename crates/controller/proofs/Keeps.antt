-- Each call of a controller leaves a sound view sound.
use Rattle.std.proofs.Common.{◌≡◌, ℕ, ◌<◌, Bool, true, ◌⊎◌, Some, None, Ok, Err, Option, Result, sym, ◌∙◌, subst, inl, inr, ⊎_elim}
use Rattle.std.proofs.lemmas.Bool.{both_ways, or_cases, and_parts, eqb-true}
use Rattle.lines.specs.Sets.{has, union, minus, only, Within}
use Rattle.lines.proofs.Laws.{has-union, has-minus, has-only, has_none}
use Rattle.controller.specs.declared.fault.ControllerFault.{ControllerFault}
use Rattle.controller.specs.declared.fault.Raised.{Raised}
use Rattle.controller.specs.View.{View, WeakOrder, Sound, Deliverable, raised, taken, ended, set_pending, set_masked, set_blocked, fresh}
use Rattle.controller.specs.Calls.{Raises, Masks, Takes, Ends}

-- a line of a set with one line more is of the set, or is that line
pub in_with : (s k n : ℕ) → has (union s (only k)) n ≡ true → (has s n ≡ true) ⊎ (n ≡ k)
in_with s k n h =
    ⊎_elim inl (λ e. inr (eqb-true n k (sym (has-only k n) ∙ e))) (or_cases _ _ (sym (has-union s (only k) n) ∙ h))

-- a line of a set with some lines less is of the set
pub in_less : (s t n : ℕ) → has (minus s t) n ≡ true → has s n ≡ true
in_less s t n h = (and_parts _ _ (sym (has-minus s t n) ∙ h)).0

pub with_in : (s k t : ℕ) → Within s t → has t k ≡ true → Within (union s (only k)) t
with_in s k t w h n m = elim (in_with s k n m) [ inl x ↦ w n x | inr e ↦ subst (λ z. has t z ≡ true) (sym e) h ]

pub less_in : (s u t : ℕ) → Within s t → Within (minus s u) t
less_in s u t w n m = w n (in_less s u n m)

module _ (v : View) (o : Sound v) where
  -- one of the sets replaced by another within the lines
  pub pending_sound : (s : ℕ) → Within s v.lines → Sound (set_pending v s)
  pending_sound s h =
      record {
        order = o.order;
        small = o.small;
        some = o.some;
        pending_in = h;
        masked_in = o.masked_in;
        blocked_in = o.blocked_in;
        service_in = o.service_in;
        distinct = o.distinct;
      }

  pub masked_sound : (s : ℕ) → Within s v.lines → Sound (set_masked v s)
  masked_sound s h =
      record {
        order = o.order;
        small = o.small;
        some = o.some;
        pending_in = o.pending_in;
        masked_in = h;
        blocked_in = o.blocked_in;
        service_in = o.service_in;
        distinct = o.distinct;
      }

  pub blocked_sound : (s : ℕ) → Within s v.lines → Sound (set_blocked v s)
  blocked_sound s h =
      record {
        order = o.order;
        small = o.small;
        some = o.some;
        pending_in = o.pending_in;
        masked_in = o.masked_in;
        blocked_in = h;
        service_in = o.service_in;
        distinct = o.distinct;
      }

  raised_sound : (n : ℕ) → has v.lines n ≡ true → Sound (raised v n)
  raised_sound n h = pending_sound _ (with_in _ n _ o.pending_in h)

  taken_sound : (n : ℕ) → Deliverable v n → Sound (taken v n)
  taken_sound n p =
      record {
        order = o.order;
        small = o.small;
        some = o.some;
        pending_in = less_in _ _ _ o.pending_in;
        masked_in = o.masked_in;
        blocked_in = o.blocked_in;
        service_in = with_in _ n _ o.service_in (o.pending_in n p.pends);
        distinct = λ a b x y f g. elim (in_with _ n a x) [
          | inl i ↦ elim (in_with _ n b y) [
            | inl j ↦ o.distinct a b i j f g
            | inr e ↦ absurd (both_ways _ g (subst (λ z. v.above z a ≡ true) (sym e) (p.over a i)))
          ]
          | inr d ↦ elim (in_with _ n b y) [
            | inl j ↦ absurd (both_ways _ f (subst (λ z. v.above z b ≡ true) (sym d) (p.over b j)))
            | inr e ↦ d ∙ sym e
          ]
        ];
      }

  ended_sound : (n : ℕ) → Sound (ended v n)
  ended_sound n =
      record {
        order = o.order;
        small = o.small;
        some = o.some;
        pending_in = o.pending_in;
        masked_in = o.masked_in;
        blocked_in = o.blocked_in;
        service_in = less_in _ _ _ o.service_in;
        distinct = λ a b x y f g. o.distinct a b (in_less _ _ a x) (in_less _ _ b y) f g;
      }

  pub raises_sound : (n : ℕ) (r : Result Raised ControllerFault) (w : View) → Raises v n r w → Sound w
  raises_sound n (Ok a) w h = subst Sound (sym h.2) (raised_sound n h.0)
  raises_sound n (Err e) w h = subst Sound (sym h.2) o

  pub masks_sound : (s : ℕ) (r : Result (Unit {0}) ControllerFault) (w : View) → Masks v s r w → Sound w
  masks_sound s (Ok a) w h = subst Sound (sym h.1) (masked_sound s h.0)
  masks_sound s (Err e) w h = subst Sound (sym h.2) o

  pub takes_sound : (r : Option ℕ) (w : View) → Takes v r w → Sound w
  takes_sound None w h = subst Sound (sym h.1) o
  takes_sound (Some n) w h = subst Sound (sym h.1) (taken_sound n h.0.one)

  pub ends_sound : (r : Result ℕ ControllerFault) (w : View) → Ends v r w → Sound w
  ends_sound (Ok n) w h = subst Sound (sym h.1) (ended_sound n)
  ends_sound (Err e) w h = subst Sound (sym h.2) o

-- a controller as it is made is sound
pub fresh_sound : (lines : ℕ) (above : ℕ → ℕ → Bool) → WeakOrder above → ((n : ℕ) → has lines n ≡ true → n < 64) → (lines ≡ 0 → ⊥) → Sound (fresh lines above)
fresh_sound lines above w small some =
    record {
      order = w;
      small = small;
      some = some;
      pending_in = none;
      masked_in = none;
      blocked_in = none;
      service_in = none;
      distinct = λ a b x y f g. absurd (both_ways _ (has_none a) x);
    } where
      none : Within 0 lines
      none n h = absurd (both_ways _ (has_none n) h)
