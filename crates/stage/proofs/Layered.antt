-- The stall layer on the spl layer as a stage.
use Rattle.std.proofs.Common.{◌≡◌, ℕ, Bool, false, cond, Some, Option, Result, sym, ap, ◌∙◌, ap₂}
use mathlib.Core.Path.{subst₃}
use Rattle.lines.specs.Sets.{union, common}
use Rattle.lines.specs.declared.line_set.LineSet.{LineSet}
use Rattle.levels.specs.declared.Level as level
use Rattle.controller.specs.declared.interface.Controller as controller
use Rattle.controller.specs.declared.fault.ControllerFault.{ControllerFault}
use Rattle.controller.specs.declared.fault.Raised.{Raised}
use Rattle.controller.specs.View.{Sound, set_masked, set_blocked}
use Rattle.controller.specs.Calls.{Raises, Masks, Takes, Ends}
use Rattle.spl.specs.declared.policy.Policy as policy
use Rattle.spl.specs.declared.layer.Spl.{Spl}
use Rattle.spl.specs.Codes.{Decodes}
use Rattle.spl.specs.Blocking.{MasksOwn}
use Rattle.spl.specs.Layer.{layer_view, SameSettings}
use Rattle.stall.specs.Stalling.{stalled_view}
use Rattle.model.specs.Stage.{StageModel, told, Through}
use Rattle.stage.specs.Layers.{code_number, not_above_named, policy_model, staged, stage_at}
use Rattle.stage.proofs.Lows.{low_is, named_back}
use Rattle.stage.proofs.Staged.{raises_through, ends_through, masks_through, takes_through}

module _ {P C K L : Type 0} {p : policy.Ghosts P K} {k : level.Ghosts K} {c : controller.Ghosts C L} {l : level.Ghosts L} where
  -- a call of the spl layer that leaves its settings
  after_call : {X : Type 0} (R : StageModel → X → StageModel → Type 0) (r : X) (t u : Spl P C K L p k c l) (b : Bool) → SameSettings t u
      → R (stage_at t b) r (staged (c.view u.below) t.own.bits (policy_model p k t.policy) (code_number (p.codes t.policy t.level)) b) → R (stage_at t b) r (stage_at u b)
  after_call R r t u b e h =
      let F : P → K → LineSet → Type 0 = λ x l o. R (stage_at t b) r (staged (c.view u.below) o.bits (policy_model p k x) (code_number (p.codes x l)) b) in
      subst₃ F (sym e.0) (sym e.1) (sym e.2) h

  pub raise_through : (t u : Spl P C K L p k c l) (b : Bool) (n : ℕ) (r : Result Raised ControllerFault) → SameSettings t u → Raises (c.view t.below) n r (c.view u.below)
      → Through (λ x. Raises x n) (stage_at t b) r (stage_at u b)
  raise_through t u b n r e h = after_call (Through (λ x. Raises x n)) r t u b e (raises_through (c.view t.below) (c.view u.below) t.own.bits _ _ b n r h)

  pub end_through : (t u : Spl P C K L p k c l) (b : Bool) (r : Result ℕ ControllerFault) → SameSettings t u → Ends (c.view t.below) r (c.view u.below)
      → Through Ends (stage_at t b) r (stage_at u b)
  end_through t u b r e h = after_call (Through Ends) r t u b e (ends_through (c.view t.below) (c.view u.below) t.own.bits _ _ b r h)

  pub mask_through : (t u : Spl P C K L p k c l) (b : Bool) (set : ℕ) (r : Result (Unit {0}) ControllerFault) → u.policy ≡ t.policy → u.level ≡ t.level
      → MasksOwn (c.view t.below) t.low.bits set r (u.own.bits ≡ set) (u ≡ t) (c.view u.below) → Through (λ x. Masks x set) (stage_at t b) r (stage_at u b)
  mask_through t u b set r ep el h =
      masks_through (c.view t.below) (c.view u.below) t.own.bits u.own.bits t.low.bits _ _ b set (stage_at u b) (u ≡ t) r (ap (λ x. stage_at x b))
      (ap₂ (λ x y. staged (c.view u.below) u.own.bits (policy_model p k x) (code_number (p.codes x y)) b) ep el) h

  module _ (decodes : (x : P) (n : ℕ) → Decodes (p.codes x) n (p.named x n)) (distinct : (x : P) (a b : K) (n : ℕ) → p.codes x a ≡ Some n → p.codes x b ≡ Some n → a ≡ b) where
    -- the lines that the level blocks are those that its code says
    low_now : (t : Spl P C K L p k c l) → Sound (c.view t.below)
        → t.low.bits ≡ common (c.view t.below).lines ((policy_model p k t.policy).not_above (code_number (p.codes t.policy t.level)))
    low_now t o =
        let e = t.settable.1 in
        let own_code : p.codes t.policy t.level ≡ Some (code_number (p.codes t.policy t.level)) = e ∙ ap Some (sym (ap code_number e)) in
        let back = named_back (p.codes t.policy) (p.named t.policy) t.level (code_number (p.codes t.policy t.level)) (decodes t.policy) (distinct t.policy) own_code in
        low_is (c.view t.below).lines t.low.bits (λ n. k.above (p.levels t.policy n) t.level) o.small t.blocking.low_are
        ∙ sym (ap (λ x. common (c.view t.below).lines (not_above_named (p.levels t.policy) k.above x)) back)

    -- so the stage tells what the layers tell
    pub told_now : (t : Spl P C K L p k c l) (b : Bool) → Sound (c.view t.below) → stalled_view (layer_view t) b ≡ told (stage_at t b)
    told_now t b o =
        let v = c.view t.below in
        ap (λ x. set_blocked (set_masked v t.own.bits) (cond b v.lines (union v.blocked x))) (low_now t o)

    pub take_through : (t u : Spl P C K L p k c l) (b : Bool) (r : Option ℕ) → Sound (c.view t.below) → b ≡ false → SameSettings t u
        → Takes (layer_view t) r (layer_view u) → Takes (c.view t.below) r (c.view u.below) → Through Takes (stage_at t b) r (stage_at u b)
    take_through t u b r o q e h i =
        after_call (Through Takes) r t u b e (takes_through (c.view t.below) (c.view u.below) t.own.bits t.low.bits _ _ b r q (low_now t o) (rw (e.2, e.3) at h) i)
