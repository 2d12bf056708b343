-- Whole runs: machines alike answer alike, and the calls of a kernel are not seen before it.
use Rattle.std.proofs.Common.{◌≡◌, Bool, true, false, cond, not, List, [], ◌∷◌, ◌++◌, sym, refl, ap, ◌∙◌, subst, ap₂, inl, inr}
use Rattle.std.proofs.lemmas.Bool.{cases_Bool}
use Rattle.std.proofs.lemmas.List.Elements.{filter_agree}
use Rattle.controller.specs.View.{View}
use Rattle.model.specs.declared.calls.Kernel.{Kernel}
use Rattle.model.specs.declared.calls.Kernel.TheVariants.{Head as head, Root as root}
use Rattle.model.specs.declared.calls.Place.TheVariants.{Hardware as hardware, Kernel as kernel}
use Rattle.model.specs.declared.calls.Call.{Call}
use Rattle.model.specs.declared.calls.Call.TheVariants.{Raise as raise, MaskHardware as mask_hardware, Pump as pump, Next as next, To as to, Ask as ask}
use Rattle.model.specs.Machine.{MachineModel, before, same, Step}
use Rattle.model.specs.Run.{Entry, calls, answers, Run, Made, Fresh, OrderedAlike, MadeAlike}
use Rattle.model.specs.Promises.{AlikeAnswers, concerns, part, Undisturbed, names, others, Apart, PromisesKept}
use Rattle.model.proofs.Lists.{cons_head, cons_tail, kept_all}
use Rattle.model.proofs.Kernels.{before_through}
use Rattle.model.proofs.Views.{Alike}
use Rattle.model.proofs.Steps.{AlikeMachine, machine_sym, step_alike, step_aside}
use Rattle.model.proofs.Turns.{none_lost_none_doubled}

-- ---- lists of calls with their answers

no_calls : (h : List Entry) → [] ≡ calls h → [] ≡ answers h
no_calls [] e = refl
no_calls (x ∷ h) e = cc

-- of these kernels, with one all that stand before it are among them
module _ (these : Kernel → Bool) (closed : (j k : Kernel) → these k ≡ true → before j k ≡ true → these j ≡ true) where
  part_in : (e : Entry) (h : List Entry) → concerns these e.call ≡ true → part these (e ∷ h) ≡ e ∷ part these h
  part_in e h q = ap (λ b. cond b (e ∷ part these h) (part these h)) q

  part_out : (e : Entry) (h : List Entry) → concerns these e.call ≡ false → part these (e ∷ h) ≡ part these h
  part_out e h q = ap (λ b. cond b (e ∷ part these h) (part these h)) q

  -- what is shown of a run h, started on m, against any other
  Matches : MachineModel → List Entry → Type 0
  Matches m h =
      (n n' : MachineModel) (g : List Entry) → AlikeMachine these m n → Run n g n' → calls (part these h) ≡ calls (part these g) → answers (part these h) ≡ answers (part these g)

  matches_none : (m : MachineModel) → Matches m []
  unfolding Matches
  matches_none m n n' g l r e = no_calls (part these g) e

  matches_out : (m m₁ : MachineModel) (e : Entry) (h : List Entry) → concerns these e.call ≡ false → Step m e.call e.answer m₁ → Matches m₁ h → Matches m (e ∷ h)
  unfolding Matches
  matches_out m m₁ e h q x ih n n' g l r eq =
      ap answers (part_out e h q) ∙ ih n n' g (step_aside these closed e.answer e.call q l x) r (sym (ap calls (part_out e h q)) ∙ eq)

  matches_in : (m m₁ : MachineModel) (e : Entry) (h : List Entry) → concerns these e.call ≡ true → Step m e.call e.answer m₁ → Matches m₁ h → Matches m (e ∷ h)
  unfolding Matches
  matches_in m m₁ e h q x ih n n' [] l r eq = sym (no_calls (part these (e ∷ h)) (sym eq))
  matches_in m m₁ e h q x ih n n' (d ∷ g) l (n₁, y, r) eq =
      elim (cases_Bool (concerns these d.call)) [
        | inl k ↦
            let eq' : e.call ∷ calls (part these h) ≡ d.call ∷ calls (part these g) = sym (ap calls (part_in e h q)) ∙ eq ∙ ap calls (part_in d g k) in
            let first : e.call ≡ d.call = cons_head eq' in
            let rest : calls (part these h) ≡ calls (part these g) = cons_tail eq' in
            let both = step_alike these closed e.call q l x (subst (λ c. Step n c d.answer n₁) (sym first) y) in
            ap answers (part_in e h q) ∙ ap₂ ◌∷◌ both.0 (ih n₁ n' g both.1 r rest) ∙ sym (ap answers (part_in d g k))
        | inr k ↦
            matches_in m m₁ e h q x ih n₁ n' g (machine_sym these closed (step_aside these closed d.answer d.call k (machine_sym these closed l) y)) r
            (eq ∙ ap calls (part_out d g k)) ∙ sym (ap answers (part_out d g k))
      ]

  matches : (m m' : MachineModel) (h : List Entry) → Run m h m' → Matches m h
  matches m m' [] r = matches_none m
  matches m m' (e ∷ h) (m₁, x, r) =
      elim (cases_Bool (concerns these e.call)) [
        | inl k ↦ matches_in m m₁ e h k x (matches m₁ m' h r)
        | inr k ↦ matches_out m m₁ e h k x (matches m₁ m' h r)
      ]

-- ---- machines made alike

made_alike_views : {v w : View} → Made v → Made w → OrderedAlike v w → Alike v w
made_alike_views {v} {w} a b o =
    record {
      order = o;
      sound = a.sound;
      sound' = b.sound;
      pending = ap (λ x. x.pending) a.empty ∙ sym (ap (λ x. x.pending) b.empty);
      masked = ap (λ x. x.masked) a.empty ∙ sym (ap (λ x. x.masked) b.empty);
      blocked = ap (λ x. x.blocked) a.empty ∙ sym (ap (λ x. x.blocked) b.empty);
      in_service = ap (λ x. x.in_service) a.empty ∙ sym (ap (λ x. x.in_service) b.empty);
    }

made_alike : (these : Kernel → Bool) (m n : MachineModel) → Fresh m → Fresh n → MadeAlike m n → AlikeMachine these m n
made_alike these m n f g a =
    record {
      at_hardware = made_alike_views f.at_hardware g.at_hardware a.at_hardware;
      at_stage = λ k h.
          record {
            own = made_alike_views (f.at_stage k) (g.at_stage k) (a.at_stage k);
            policy = a.policies k;
            level = f.lowest k ∙ ap (λ p. p.lowest) (a.policies k) ∙ sym (g.lowest k);
            stalled = f.unstalled k ∙ sym (g.unstalled k);
          };
      routes = a.routes;
    }

-- ---- the promises

undisturbed : (these : Kernel → Bool) → ((j k : Kernel) → these k ≡ true → before j k ≡ true → these j ≡ true) → Undisturbed these
unfolding Matches
undisturbed these closed m n m' n' h g f f' a r r' e = matches these closed m m' h r n n' g (made_alike these m n f f' a) r' e

pub those_ahead_undisturbed : (k : Kernel) → Undisturbed (λ j. before j k)
those_ahead_undisturbed k = undisturbed (λ j. before j k) (λ i j p q. before_through i j k p q)

pub all_concern : (c : Call) → concerns (λ _. true) c ≡ true
all_concern (raise n) = refl
all_concern (mask_hardware s) = refl
all_concern (pump n) = refl
all_concern (next k) = refl
all_concern (to k c) = refl
all_concern (ask hardware q) = refl
all_concern (ask (kernel k) q) = refl

all_part : (h : List Entry) → part (λ _. true) h ≡ h
all_part h = filter_agree (λ e. concerns (λ _. true) e.call) (λ e. true) (λ e. all_concern e.call) h ∙ kept_all h

pub alike_answers : AlikeAnswers Fresh
alike_answers m n m' n' h g f f' a r r' e =
    sym (ap answers (all_part h))
    ∙ undisturbed (λ _. true) (λ i j p q. refl) m n m' n' h g f f' a r r' (ap calls (all_part h) ∙ e ∙ sym (ap calls (all_part g)))
    ∙ ap answers (all_part g)

-- before the root stands every kernel but the root
before_root : (j : Kernel) → not (same j root) ≡ before j root
before_root head = refl
before_root root = refl

root_concerns : (c : Call) → not (names root c) ≡ concerns (λ j. before j root) c
root_concerns (raise n) = refl
root_concerns (mask_hardware s) = refl
root_concerns (pump n) = refl
root_concerns (next k) = before_root k
root_concerns (to k c) = before_root k
root_concerns (ask hardware q) = refl
root_concerns (ask (kernel k) q) = before_root k

others_ahead : (h : List Entry) → others root h ≡ part (λ j. before j root) h
others_ahead h = filter_agree (λ e. not (names root e.call)) (λ e. concerns (λ j. before j root) e.call) (λ e. root_concerns e.call) h

pub root_apart : Apart root
root_apart m n m' n' h g f f' a r r' e =
    ap answers (others_ahead h)
    ∙ those_ahead_undisturbed root m n m' n' h g f f' a r r' (sym (ap calls (others_ahead h)) ∙ e ∙ ap calls (others_ahead g))
    ∙ sym (ap answers (others_ahead g))

pub promises_kept : PromisesKept Fresh
promises_kept m m' h f g r =
    record {
      ran = r;
      in_turn = λ p n. none_lost_none_doubled m m' h p n f g r;
      alike = λ n n' l f' a r' e. alike_answers m n m' n' h l f f' a r r' e;
      undisturbed = λ k n n' l f' a r' e. those_ahead_undisturbed k m n m' n' h l f f' a r r' e;
      apart = λ n n' l f' a r' e. root_apart m n m' n' h l f f' a r r' e;
    }

-- one call more
pub run_more : (m x y : MachineModel) (h : List Entry) (e : Entry) → Run m h x → Step x e.call e.answer y → Run m (h ++ (e ∷ [])) y
run_more m x y [] e r s = (y, subst (λ z. Step z e.call e.answer y) r s, refl)
run_more m x y (d ∷ h) e (m₁, t, r) s = (m₁, t, run_more m₁ x y h e r s)
