-- What the calls of a kernel leave as it was: all but its own stage, and there the lines.
use Rattle.std.proofs.Common.{◌≡◌, ℕ, Bool, true, false, ◌⊎◌, Ok, Err, Result, ap, ◌∙◌, inl, inr}
use Rattle.controller.specs.View.{View}
use Rattle.controller.specs.Calls.{Masks, Takes, Ends}
use Rattle.spl.specs.declared.fault.LevelFault.{LevelFault}
use Rattle.model.specs.declared.calls.Kernel.{Kernel}
use Rattle.model.specs.declared.calls.StageCall.{StageCall}
use Rattle.model.specs.declared.calls.StageCall.TheVariants.{Done as done, Mask as mask, Stall as stall, Unstall as unstall, SetLevel as set_level}
use Rattle.model.specs.Stage.{StageModel, told, Through, SetsStalled, SetsStageLevel}
use Rattle.model.specs.Machine.{MachineModel, with_stage, Answered, AtStage, Nexts, StageStep, Reply}
use Rattle.model.proofs.Views.{Fixed, masks_fixed, takes_fixed, ends_fixed, masks_pending, ends_pending}

-- the lines and what is pending are as they were
pub record Keeps (v w : View) : Type 0 where
  pub lines : w.lines ≡ v.lines
  pub pending : w.pending ≡ v.pending

same_keeps : {v w : View} → w ≡ v → Keeps v w
same_keeps e = record { lines = ap (λ x. x.lines) e; pending = ap (λ x. x.pending) e }

through_lines : {X : Type 0} (R : View → X → View → Type 0) → ((v w : View) (r : X) → R v r w → Fixed v w) → (s s' : StageModel) (r : X) → Through R s r s' → s'.own.lines ≡ s.own.lines
through_lines R f s s' r (w, x, e) = ap (λ z. z.own.lines) e ∙ (f (told s) w r x).lines

through_keeps : {X : Type 0} (R : View → X → View → Type 0) → ((v w : View) (r : X) → R v r w → Fixed v w) → ((v w : View) (r : X) → R v r w → w.pending ≡ v.pending)
    → (s s' : StageModel) (r : X) → Through R s r s' → Keeps s.own s'.own
through_keeps R f h s s' r (w, x, e) = record { lines = through_lines R f s s' r (w, x, e); pending = ap (λ z. z.own.pending) e ∙ h (told s) w r x }

stalled_keeps : (b : Bool) (s s' : StageModel) (r : Bool) → SetsStalled b s r s' → Keeps s.own s'.own
stalled_keeps b s s' r h = same_keeps (ap (λ x. x.own) h.1)

level_keeps : (c : ℕ) (s s' : StageModel) (r : Result ℕ LevelFault) → SetsStageLevel c s r s' → Keeps s.own s'.own
level_keeps c s s' (Ok r) h = same_keeps (ap (λ x. x.own) h.2)
level_keeps c s s' (Err e) h = same_keeps (ap (λ x. x.own) h.2)

-- the machine with only the stage of kernel k changed, and there neither the lines nor what is pending
abbrev ElsewhereSame : Kernel → MachineModel → MachineModel → Type 0
ElsewhereSame k m m' = (s : StageModel) × Keeps (m.stage k).own s.own × (m' ≡ with_stage m k s)

at_stage : {X : Type 0} (k : Kernel) (R : StageModel → X → StageModel → Type 0) (says : X → Reply) → ((s s' : StageModel) (r : X) → R s r s' → Keeps s.own s'.own)
    → (m m' : MachineModel) (a : Reply) → Answered (AtStage k R) says m a m' → ElsewhereSame k m m'
at_stage k R says h m m' a x = let d = x.does in (d.0, h (m.stage k) d.0 x.result d.1, d.2)

pub stage_leaves : (k : Kernel) (m m' : MachineModel) (c : StageCall) (a : Reply) → StageStep k m c a m' → (s : StageModel) × Keeps (m.stage k).own s.own × (m' ≡ with_stage m k s)
stage_leaves k m m' done a x = at_stage k _ _ (through_keeps Ends ends_fixed ends_pending) m m' a x
stage_leaves k m m' (mask s) a x = at_stage k _ _ (through_keeps (λ v. Masks v s.bits) (masks_fixed s.bits) (masks_pending s.bits)) m m' a x
stage_leaves k m m' stall a x = at_stage k _ _ (stalled_keeps true) m m' a x
stage_leaves k m m' unstall a x = at_stage k _ _ (stalled_keeps false) m m' a x
stage_leaves k m m' (set_level c) a x = at_stage k _ _ (level_keeps c) m m' a x

-- next leaves all as it was, or all but the stage of kernel k and its lines too
pub next_leaves : (k : Kernel) (m m' : MachineModel) (a : Reply) → Nexts k m a m'
    → (m' ≡ m) ⊎ ((s : StageModel) × (s.own.lines ≡ (m.stage k).own.lines) × (m' ≡ with_stage m k s))
next_leaves k m m' a (inl (h, p)) = inl p.1
next_leaves k m m' a (inr (inl (h, b, p))) = inl p.1
next_leaves k m m' a (inr (inr (h, b, t))) =
    let d = t.does in
    inr (d.0, through_lines Takes takes_fixed (m.stage k) d.0 t.result d.1, d.2)
