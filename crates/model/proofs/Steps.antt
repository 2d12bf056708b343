-- Machines that are alike as far as some kernels go: one call answers alike there and leaves them so.
use Rattle.std.proofs.Common.{◌≡◌, ℕ, Bool, true, false, cond, Ok, Err, sym, refl, ap, ◌∙◌, subst, ap₂, subst₂, inl, inr, arith}
use Rattle.std.proofs.lemmas.Bool.{cases_Bool, both_ways, or_cases, and_parts}
use Rattle.lines.specs.Sets.{union, common, minus, Within}
use Rattle.lines.proofs.Laws.{has-union, has-common, has-minus}
use Rattle.controller.specs.View.{View, Sound, set_pending}
use Rattle.controller.specs.Calls.{Raises, Masks, Takes, Ends}
use Rattle.controller.proofs.Keeps.{pending_sound, blocked_sound}
use Rattle.model.specs.declared.calls.Kernel.{Kernel}
use Rattle.model.specs.declared.calls.Place.TheVariants.{Hardware as hardware, Kernel as kernel}
use Rattle.model.specs.declared.calls.Question.{Question}
use Rattle.model.specs.declared.calls.Question.TheVariants.{Lines as lines, Pending as pending, Masked as masked, Blocked as blocked, InService as in_service}
use Rattle.model.specs.declared.calls.StageCall.{StageCall}
use Rattle.model.specs.declared.calls.StageCall.TheVariants.{Done as done, Mask as mask, Stall as stall, Unstall as unstall, SetLevel as set_level}
use Rattle.model.specs.declared.calls.Call.{Call}
use Rattle.model.specs.declared.calls.Call.TheVariants.{Raise as raise, MaskHardware as mask_hardware, Pump as pump, Next as next, To as to, Ask as ask}
use Rattle.model.specs.declared.calls.Answer.TheVariants.{Told as set_told}
use Rattle.model.specs.Arrivals.{cleared}
use Rattle.model.specs.Stage.{StageModel, blocks, told, telling, set_own, Through, SetsStalled, SetsStageLevel}
use Rattle.model.specs.Machine.{MachineModel, before, same, routed, with_stage, tells, set_of, AtHardware, AtStage, pumped, Pumps, Held, Busy, Answered, Only, raise_says, mask_says, done_says, level_says, pump_says, Nexts, StageStep, Step, Reply, stall_says, take_says}
use Rattle.model.specs.Promises.{concerns}
use Rattle.model.proofs.Kernels.{stage_cases}
use Rattle.model.proofs.Leaves.{next_leaves, stage_leaves}
use Rattle.model.proofs.Views.{Alike, Respects, alike_sym, alike_sets, serving_alike, deliverable_alike, raises_alike, masks_alike, takes_alike, ends_alike, Fixed, masks_fixed, takes_fixed, ends_fixed, arrivals_alike}

-- ---- sound views of a stage

-- what a stage blocks are lines of it
blocks_in : (s : StageModel) (b : Bool) → Sound s.own
    → Within (cond b s.own.lines (union s.own.blocked (common s.own.lines (s.policy.not_above s.level)))) s.own.lines
blocks_in s true o n h = h
blocks_in s false o n h =
    elim (or_cases _ _ (sym (has-union _ _ n) ∙ h)) [
      | inl x ↦ o.blocked_in n x
      | inr x ↦ (and_parts _ _ (sym (has-common _ _ n) ∙ x)).0
    ]

pub told_sound : (s : StageModel) → Sound s.own → Sound (told s)
told_sound s o = blocked_sound s.own o (blocks s) (blocks_in s s.stalled o)

-- ---- stages alike

pub record AlikeStage (s t : StageModel) : Type 0 where
  pub own : Alike s.own t.own
  pub policy : s.policy ≡ t.policy
  pub level : s.level ≡ t.level
  pub stalled : s.stalled ≡ t.stalled

blocks_alike : {s t : StageModel} → AlikeStage s t → blocks s ≡ blocks t
blocks_alike {s} {t} l =
    let e = l.own.order.lines in
    let f = l.own.blocked in
    let g = l.policy in
    let h = l.level in
    let i = l.stalled in
    cc

pub told_alike : {s t : StageModel} → AlikeStage s t → Alike (told s) (told t)
told_alike {s} {t} l =
    alike_sets l.own l.own.pending l.own.masked (blocks_alike l) l.own.in_service (told_sound s l.own.sound) (told_sound t l.own.sound')

own_alike : {s t : StageModel} {v w : View} → AlikeStage s t → Alike v w → AlikeStage (set_own s v) (set_own t w)
own_alike l o = record { own = o; policy = l.policy; level = l.level; stalled = l.stalled }

telling_alike : {s t : StageModel} {v w : View} → AlikeStage s t → Alike v w → v.lines ≡ s.own.lines → w.lines ≡ t.own.lines
    → AlikeStage (telling s v) (telling t w)
telling_alike {s} {t} {v} {w} l o e f =
    own_alike l (alike_sets o o.pending o.masked l.own.blocked o.in_service
    (blocked_sound v o.sound s.own.blocked (subst (Within s.own.blocked) (sym e) l.own.sound.blocked_in))
    (blocked_sound w o.sound' t.own.blocked (subst (Within t.own.blocked) (sym f) l.own.sound'.blocked_in)))

-- a controller's call on what the stage tells
through_alike : {X : Type 0} (R : View → X → View → Type 0) → Respects Alike R → ((v w : View) (r : X) → R v r w → Fixed v w) → Respects AlikeStage (Through R)
through_alike R h fixed s t s' t' r q l (v, x, e) (w, y, f) =
    let both = h (told s) (told t) v w r q (told_alike l) x y in
    (both.0, subst₂ AlikeStage (sym e) (sym f) (telling_alike l both.1 (fixed (told s) v r x).lines (fixed (told t) w q y).lines))

stalled_alike : (b : Bool) → Respects AlikeStage (SetsStalled b)
stalled_alike b s t s' t' r q l (x, e) (y, f) = (
  x ∙ l.stalled ∙ sym y,
  subst₂ AlikeStage (sym e) (sym f) (record { own = l.own; policy = l.policy; level = l.level; stalled = refl }),
)

level_alike : (c : ℕ) → Respects AlikeStage (SetsStageLevel c)
level_alike c s t s' t' (Ok r) (Ok q) l x y = (
  ap Ok (x.1 ∙ l.level ∙ sym y.1),
  subst₂ AlikeStage (sym x.2) (sym y.2) (record { own = l.own; policy = l.policy; level = refl; stalled = l.stalled }),
)
level_alike c s t s' t' (Ok r) (Err e) l x y = absurd (both_ways (t.policy.names c) y.0 (sym (ap (λ z. z.names c) l.policy) ∙ x.0))
level_alike c s t s' t' (Err d) (Ok q) l x y = absurd (both_ways (t.policy.names c) (sym (ap (λ z. z.names c) l.policy) ∙ x.0) y.0)
level_alike c s t s' t' (Err d) (Err e) l x y = (ap Err (x.1 ∙ sym y.1), subst₂ AlikeStage (sym x.2) (sym y.2) l)

-- ---- machines alike

-- at the hardware and at the stages of these kernels
pub record AlikeMachine (these : Kernel → Bool) (m n : MachineModel) : Type 0 where
  pub at_hardware : Alike m.hardware n.hardware
  pub at_stage : (k : Kernel) → these k ≡ true → AlikeStage (m.stage k) (n.stage k)
  pub routes : m.routes ≡ n.routes

by_alike : {S X : Type 0} (Like : S → S → Type 0) (R : S → X → S → Type 0) (says : X → Reply) → Respects Like R
    → {s t s' t' : S} {a b : Reply} → Like s t → Answered R says s a s' → Answered R says t b t' → (a ≡ b) × Like s' t'
by_alike Like R says h {s} {t} {s'} {t'} l x y =
    let both = h s t s' t' x.result y.result l x.does y.does in
    (x.answers ∙ ap says both.0 ∙ sym y.answers, both.1)

tells_alike : {v w : View} → Alike v w → (q : Question) → tells v q ≡ tells w q
tells_alike l lines = l.order.lines
tells_alike l pending = l.pending
tells_alike l masked = l.masked
tells_alike l blocked = l.blocked
tells_alike l in_service = l.in_service

pub cleared_sound : (v : View) (s : ℕ) → Sound v → Sound (cleared v s)
cleared_sound v s o = pending_sound v o _ (λ n h. o.pending_in n (and_parts _ _ (sym (has-minus _ s n) ∙ h)).0)

added_sound : (v : View) (s r : ℕ) → Sound v → Sound (set_pending v (union v.pending (common s (common r v.lines))))
added_sound v s r o =
    pending_sound v o _ (λ n h. elim (or_cases _ _ (sym (has-union _ _ n) ∙ h)) [
      | inl x ↦ o.pending_in n x
      | inr x ↦ (and_parts _ _ (sym (has-common _ _ n) ∙ (and_parts _ _ (sym (has-common _ _ n) ∙ x)).1)).1
    ])

-- of these kernels, with one all that stand before it are among them
module _ (these : Kernel → Bool) (closed : (j k : Kernel) → these k ≡ true → before j k ≡ true → these j ≡ true) where
  hardware_alike : {X : Type 0} (R : View → X → View → Type 0) → Respects Alike R → Respects (AlikeMachine these) (AtHardware R)
  hardware_alike R h m n m' n' r q l (v, x, e) (w, y, f) =
      let both = h m.hardware n.hardware v w r q l.at_hardware x y in (
        both.0,
        subst₂ (AlikeMachine these) (sym e) (sym f) (record { at_hardware = both.1; at_stage = l.at_stage; routes = l.routes }),
      )

  with_stage_alike : {m n : MachineModel} {s t : StageModel} → (k : Kernel) → AlikeMachine these m n → AlikeStage s t → AlikeMachine these (with_stage m k s) (with_stage n k t)
  with_stage_alike {m} {n} {s} {t} k l e =
      record {
        at_hardware = l.at_hardware;
        at_stage = λ j h. elim (cases_Bool (same j k)) as (λ _. AlikeStage ((with_stage m k s).stage j) ((with_stage n k t).stage j)) [
          | inl q ↦ subst (λ x. AlikeStage (cond x s (m.stage j)) (cond x t (n.stage j))) (sym q) e
          | inr q ↦ subst (λ x. AlikeStage (cond x s (m.stage j)) (cond x t (n.stage j))) (sym q) (l.at_stage j h)
        ];
        routes = l.routes;
      }

  stage_alike : {X : Type 0} (k : Kernel) (R : StageModel → X → StageModel → Type 0) → these k ≡ true → Respects AlikeStage R → Respects (AlikeMachine these) (AtStage k R)
  stage_alike k R i h m n m' n' r q l (s, x, e) (t, y, f) =
      let both = h (m.stage k) (n.stage k) s t r q (l.at_stage k i) x y in
      (both.0, subst₂ (AlikeMachine these) (sym e) (sym f) (with_stage_alike k l both.1))

  pub machine_sym : {m n : MachineModel} → AlikeMachine these m n → AlikeMachine these n m
  machine_sym l =
      record {
        at_hardware = alike_sym l.at_hardware;
        at_stage = λ k h. let s = l.at_stage k h in record { own = alike_sym s.own; policy = sym s.policy; level = sym s.level; stalled = sym s.stalled };
        routes = sym l.routes;
      }

  held_alike : {m n : MachineModel} → AlikeMachine these m n → (k : Kernel) → these k ≡ true → Held m k → Held n k
  held_alike l k h (j, b, e) =
      let t = told_alike (l.at_stage j (closed j k h b)) in
      (j, b, sym t.blocked ∙ e ∙ t.order.lines)

  busy_alike : {m n : MachineModel} → AlikeMachine these m n → (k : Kernel) → these k ≡ true → Busy m k → Busy n k
  busy_alike l k h (j, b, (i, inl s)) = (j, b, (i, inl (serving_alike (told_alike (l.at_stage j (closed j k h b))) i s)))
  busy_alike l k h (j, b, (i, inr o)) = (j, b, (i, inr (deliverable_alike (told_alike (l.at_stage j (closed j k h b))) i o)))

  only_alike : {m n m' n' : MachineModel} {a b c : Reply} → AlikeMachine these m n → Only c m a m' → Only c n b n' → (a ≡ b) × AlikeMachine these m' n'
  only_alike l (e, p) (f, q) = (e ∙ sym f, subst₂ (AlikeMachine these) (sym p) (sym q) l)

  next_alike : {m n m' n' : MachineModel} {a b : Reply} (k : Kernel) → these k ≡ true → AlikeMachine these m n → Nexts k m a m' → Nexts k n b n'
      → (a ≡ b) × AlikeMachine these m' n'
  next_alike k h l (inl (x, p)) (inl (y, q)) = only_alike l p q
  next_alike k h l (inl (x, p)) (inr (inl (y, v, z))) = absurd (y (held_alike l k h x))
  next_alike k h l (inl (x, p)) (inr (inr (y, v, z))) = absurd (y (held_alike l k h x))
  next_alike k h l (inr (inl (x, u, p))) (inl (y, z)) = absurd (x (held_alike (machine_sym l) k h y))
  next_alike k h l (inr (inl (x, u, p))) (inr (inl (y, v, q))) = only_alike l p q
  next_alike k h l (inr (inl (x, u, p))) (inr (inr (y, v, z))) = absurd (v (busy_alike l k h u))
  next_alike k h l (inr (inr (x, u, p))) (inl (y, z)) = absurd (x (held_alike (machine_sym l) k h y))
  next_alike k h l (inr (inr (x, u, p))) (inr (inl (y, v, z))) = absurd (u (busy_alike (machine_sym l) k h v))
  next_alike k h l (inr (inr (x, u, p))) (inr (inr (y, v, q))) =
      by_alike (AlikeMachine these) (AtStage k (Through Takes)) take_says (stage_alike k (Through Takes) h (through_alike Takes takes_alike takes_fixed)) l p q

  pumped_alike : {m n : MachineModel} → AlikeMachine these m n → (s : ℕ) → AlikeMachine these (pumped m s) (pumped n s)
  pumped_alike {m} {n} l s =
      record {
        at_hardware = let a = l.at_hardware in alike_sets a (ap (λ x. minus x s) a.pending) a.masked a.blocked a.in_service (cleared_sound m.hardware s a.sound) (cleared_sound n.hardware s a.sound');
        at_stage = λ k h.
            let o = (l.at_stage k h).own in
            own_alike (l.at_stage k h) (alike_sets o (ap₂ union o.pending (ap₂ (λ r x. common s (common (routed r k) x)) l.routes o.order.lines)) o.masked o.blocked o.in_service
            (added_sound (m.stage k).own s (routed m.routes k) o.sound) (added_sound (n.stage k).own s (routed n.routes k) o.sound'));
        routes = l.routes;
      }

  pumps_alike : (limit c : ℕ) → Respects (AlikeMachine these) (Pumps {E = Unit {0}} limit c)
  pumps_alike limit c m n m' n' (Ok s) (Ok t) l (a, f, p) (b, g, q) =
      let e : s ≡ t = arrivals_alike l.at_hardware c s t f g in
      (ap Ok e, subst₂ (AlikeMachine these) (sym p) (ap (pumped n) e ∙ sym q) (pumped_alike l s))
  pumps_alike limit c m n m' n' (Ok s) (Err e) l (a, f, p) (b, q) = absurd (let z : ⊥ = omega arith in z)
  pumps_alike limit c m n m' n' (Err d) (Ok t) l (a, p) (b, g, q) = absurd (let z : ⊥ = omega arith in z)
  pumps_alike limit c m n m' n' (Err d) (Err e) l (a, p) (b, q) = (refl, subst₂ (AlikeMachine these) (sym p) (sym q) l)

  stage_step_alike : {m n m' n' : MachineModel} {a b : Reply} (k : Kernel) (c : StageCall) → these k ≡ true → AlikeMachine these m n → StageStep k m c a m' → StageStep k n c b n'
      → (a ≡ b) × AlikeMachine these m' n'
  stage_step_alike k done h l x y = by_alike (AlikeMachine these) _ (done_says k) (stage_alike k _ h (through_alike Ends ends_alike ends_fixed)) l x y
  stage_step_alike k (mask s) h l x y =
      by_alike (AlikeMachine these) _ (mask_says (kernel k)) (stage_alike k _ h (through_alike (λ v. Masks v s.bits) (masks_alike s.bits) (masks_fixed s.bits))) l x y
  stage_step_alike k stall h l x y = by_alike (AlikeMachine these) _ stall_says (stage_alike k _ h (stalled_alike true)) l x y
  stage_step_alike k unstall h l x y = by_alike (AlikeMachine these) _ stall_says (stage_alike k _ h (stalled_alike false)) l x y
  stage_step_alike k (set_level c) h l x y = by_alike (AlikeMachine these) _ (level_says k) (stage_alike k _ h (level_alike c)) l x y

  -- equal answers, and machines alike again
  pub step_alike : {m n m' n' : MachineModel} {a b : Reply} (c : Call) → concerns these c ≡ true → AlikeMachine these m n → Step m c a m' → Step n c b n'
      → (a ≡ b) × AlikeMachine these m' n'
  step_alike (raise i) h l x y = by_alike (AlikeMachine these) _ raise_says (hardware_alike (λ v. Raises v i) (raises_alike i)) l x y
  step_alike (mask_hardware s) h l x y = by_alike (AlikeMachine these) _ (mask_says hardware) (hardware_alike (λ v. Masks v s.bits) (masks_alike s.bits)) l x y
  step_alike (pump c) h l x y = by_alike (AlikeMachine these) _ pump_says (pumps_alike 64 c) l x y
  step_alike (next k) h l x y = next_alike k h l x y
  step_alike (to k c) h l x y = stage_step_alike k c h l x y
  step_alike {n = n} {n' = n'} {b = b} (ask hardware q) h l x y = only_alike l x (subst (λ s. Only (Ok (set_told (set_of s))) n b n') (sym (tells_alike l.at_hardware q)) y)
  step_alike {n = n} {n' = n'} {b = b} (ask (kernel k) q) h l x y = only_alike l x (subst (λ s. Only (Ok (set_told (set_of s))) n b n') (sym (tells_alike (told_alike (l.at_stage k h)) q)) y)

  -- ---- the calls of the other kernels are not seen

  aside : {m n : MachineModel} (k : Kernel) → these k ≡ false → AlikeMachine these m n → (s : StageModel) → AlikeMachine these (with_stage m k s) n
  aside {m} {n} k h l s =
      record {
        at_hardware = l.at_hardware;
        at_stage = λ j e. stage_cases (λ x. AlikeStage x (n.stage j)) m k s j (λ q. absurd (both_ways (these k) h (subst (λ x. these x ≡ true) q e))) (l.at_stage j e);
        routes = l.routes;
      }

  pub step_aside : {m n m' : MachineModel} (a : Reply) (c : Call) → concerns these c ≡ false → AlikeMachine these m n → Step m c a m' → AlikeMachine these m' n
  step_aside a (raise i) h l x = absurd (both_ways true h refl)
  step_aside a (mask_hardware s) h l x = absurd (both_ways true h refl)
  step_aside a (pump c) h l x = absurd (both_ways true h refl)
  step_aside {m} {n} {m'} a (next k) h l x =
      elim (next_leaves k m m' a x) [
        | inl e ↦ subst (λ z. AlikeMachine these z n) (sym e) l
        | inr (s, i, e) ↦ subst (λ z. AlikeMachine these z n) (sym e) (aside k h l s)
      ]
  step_aside {m} {n} {m'} a (to k c) h l x =
      let y = stage_leaves k m m' c a x in
      subst (λ z. AlikeMachine these z n) (sym y.2) (aside k h l y.0)
  step_aside a (ask hardware q) h l x = absurd (both_ways true h refl)
  step_aside {m} {n} a (ask (kernel k) q) h l x = subst (λ z. AlikeMachine these z n) (sym x.1) l
