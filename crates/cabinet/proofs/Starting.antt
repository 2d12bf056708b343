-- A machine of controllers as they are made, and what runs on it.
use Rattle.std.proofs.Common.{◌≡◌, ℕ, Bool, false, List, length, IfOk, Ok, Err, Result, sym, refl, ap, ◌∙◌, subst, ap₂, MatchResult}
use Rattle.controller.specs.View.{View, Sound, fresh}
use Rattle.bank.specs.Contents.{all_lines}
use Rattle.pending_log.specs.Places.{place_order}
use Rattle.model.specs.declared.calls.Call.{Call}
use Rattle.model.specs.Stage.{PolicyModel, StageModel}
use Rattle.model.specs.Machine.{MachineModel, Reply}
use Rattle.model.specs.Run.{Made, Fresh, Routable, Run, MadeAlike}
use Rattle.model.specs.Promises.{RunPromises}
use Rattle.routes.specs.Sets.{default_routes}
use Rattle.machine.specs.Whole.{machine, MadeStage}
use Rattle.machine.specs.Played.{entries}
use Rattle.machine.proofs.Playing.{entries_calls, entries_answers}
use Rattle.cabinet.specs.Fresh.{Plays, log_stage}

-- a controller that tells what one tells as it is made
pub made : (v : View) (lines : ℕ) (above : ℕ → ℕ → Bool) → Sound v → v ≡ fresh lines above → Made v
made v lines above o e = record { sound = o; empty = e ∙ sym (ap₂ fresh (ap (λ x. x.lines) e) (ap (λ x. x.above) e)) }

-- a stage, as it is made, of a controller that tells what a pending log tells as it is made
pub log_stage_made : (s : StageModel) (v : View) (p : PolicyModel) → Sound v → v ≡ fresh all_lines place_order
    → s.own ≡ v → s.policy ≡ p → s.level ≡ p.lowest → s.stalled ≡ false → MadeStage s × (s ≡ log_stage p)
log_stage_made s v p k f o e l b = (
  record { own = subst Made (sym o) (made v all_lines place_order k f); lowest = l ∙ sym (ap (λ x. x.lowest) e); unstalled = b },
  λ i. record { own = (o ∙ f) i; policy = e i; level = l i; stalled = b i },
)

pub machine_is : {v v' : View} {a a' b b' : StageModel} → v ≡ v' → a ≡ a' → b ≡ b'
    → machine v a b (default_routes v.lines b.own.lines) ≡ machine v' a' b' (default_routes v'.lines b'.own.lines)
machine_is p q r = λ i. machine (p i) (q i) (r i) (default_routes (p i).lines (r i).own.lines)

pub plays : {V E : Type 0} (items : V → List Reply) (m n m' : MachineModel) (cs : List Call) (r : Result V E) (Left : E → Type 0) → n ≡ m → Fresh n → Routable n
    → MatchResult r (λ a. (length (items a) ≡ length cs) × Run n (entries cs (items a)) m') Left
    → IfOk r (λ a. Fresh n → RunPromises n (entries cs (items a)) m')
    → IfOk r (λ a. Plays m cs (items a))
plays items m n m' cs (Ok a) Left e f g x y =
    subst (λ z. Plays z cs (items a)) e (record { fresh = f; routable = g; all = x.0; left = m'; promises = y f })
plays items m n m' cs (Err d) Left e f g x y = tt

alike_self : (m : MachineModel) → MadeAlike m m
alike_self m =
    record {
      at_hardware = record { lines = refl; levels = λ a b x y. refl; ties = λ a b x y. refl };
      at_stage = λ k. record { lines = refl; levels = λ a b x y. refl; ties = λ a b x y. refl };
      policies = λ k. refl;
      routes = refl;
    }

-- one list from one start has one list of replies
pub same_answers : (m : MachineModel) (cs : List Call) (l k : List Reply) → Plays m cs l → Plays m cs k → l ≡ k
same_answers m cs l k p q =
    sym (entries_answers cs l p.all)
    ∙ p.promises.alike m q.left (entries cs k) q.fresh (alike_self m) q.promises.ran (entries_calls cs l p.all ∙ sym (entries_calls cs k q.all))
    ∙ entries_answers cs k q.all
