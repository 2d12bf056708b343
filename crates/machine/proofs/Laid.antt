-- A machine laid out and started.
use Rattle.std.proofs.Common.{◌≡◌, ℕ, Bool, true, false, ltb, sym, refl, ◌∙◌, subst, inl, inr}
use Rattle.std.proofs.lemmas.Bool.{cases_Bool, cond-true, cond-false, and_parts, both_ways}
use Rattle.lines.specs.Sets.{common, only, Within}
use Rattle.lines.proofs.Laws.{has-common, has_none}
use Rattle.controller.specs.View.{View}
use Rattle.controller.proofs.Keeps.{with_in, less_in}
use Rattle.model.specs.declared.calls.Kernel.TheVariants.{Head as head, Root as root}
use Rattle.model.specs.Stage.{StageModel}
use Rattle.model.specs.Machine as model
use Rattle.model.specs.Run.{Made, Fresh, Routable}
use Rattle.routes.specs.Sets.{routes, with_flag}
use Rattle.machine.specs.Routing.{CanHandle}
use Rattle.machine.specs.Whole.{machine, MadeStage}

pub fresh_machine : (v : View) (a b : StageModel) (r : model.Routes) → Made v → MadeStage a → MadeStage b → Fresh (machine v a b r)
fresh_machine v a b r h x y =
    record {
      at_hardware = h;
      at_stage = λ k. elim k as (λ j. Made ((machine v a b r).stage j).own) [ head ↦ x.own | root ↦ y.own ];
      lowest = λ k. elim k as (λ j. ((machine v a b r).stage j).level ≡ ((machine v a b r).stage j).policy.lowest) [ head ↦ x.lowest | root ↦ y.lowest ];
      unstalled = λ k. elim k as (λ j. ((machine v a b r).stage j).stalled ≡ false) [ head ↦ x.unstalled | root ↦ y.unstalled ];
    }

pub common_right : (s t : ℕ) → Within (common s t) t
common_right s t n h = (and_parts _ _ (sym (has-common s t n) ∙ h)).1

pub none_within : (s : ℕ) → Within 0 s
none_within s n h = absurd (both_ways _ (has_none n) h)

pub routable : (v : View) (a b : StageModel) (handled passed served : ℕ) → Within handled a.own.lines → Within served b.own.lines → Routable (machine v a b (routes handled passed served))
routable v a b handled passed served h k head n x = h n x
routable v a b handled passed served h k root n x = k n (common_right passed served n x)

pub flag_within : (s n lines : ℕ) (b : Bool) → Within s lines → CanHandle lines n b → Within (with_flag s n b) lines
flag_within s n lines true w h =
    elim (cases_Bool (ltb n 64)) [
      | inl e ↦ subst (λ z. Within z lines) (sym (cond-true (ltb n 64) _ s e)) (with_in s n lines w (h refl))
      | inr e ↦ subst (λ z. Within z lines) (sym (cond-false (ltb n 64) _ s e)) w
    ]
flag_within s n lines false w h = less_in s (only n) lines w
