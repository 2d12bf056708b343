-- A call at one place of the machine.
use Rattle.std.proofs.Common.{◌≡◌, ℕ, true, cond, IsErrAnd, Ok, Err, Option, Result, sym, refl, ap, ◌∙◌, subst, inr, arith}
use Rattle.std.proofs.lemmas.Result.{err_from_is_err_and}
use Rattle.controller.specs.View.{View}
use Rattle.controller.specs.Calls.{Takes}
use Rattle.model.specs.declared.calls.Kernel.{Kernel}
use Rattle.model.specs.declared.calls.Kernel.TheVariants.{Head as head, Root as root}
use Rattle.model.specs.declared.calls.Answer.{Answer}
use Rattle.model.specs.declared.calls.Place.TheVariants.{Kernel as kernel}
use Rattle.model.specs.declared.fault.Fault.{Fault}
use Rattle.model.specs.declared.fault.MachineFault.{MachineFault}
use Rattle.model.specs.Stage.{StageModel, Through}
use Rattle.model.specs.Machine.{Routes, Reply, same, before, with_stage, Answered, AtStage, Held, Busy, Nexts, take_says}
use Rattle.routes.specs.Sets.{by_kernel}
use Rattle.machine.specs.Whole.{machine}
use Rattle.machine.specs.Answering.{replied}
use Rattle.stage.specs.Gates.{AllBlocked, Occupied}

pub head_changed : (v : View) (a a' b : StageModel) (r : Routes) → machine v a' b r ≡ with_stage (machine v a b r) head a'
head_changed v a a' b r = λ i. record { hardware = v; stage = λ k. at k i; routes = r }
  where
    at : (k : Kernel) → by_kernel a' b k ≡ cond (same k head) a' (by_kernel a b k)
    at head = refl
    at root = refl

pub root_changed : (v : View) (a b b' : StageModel) (r : Routes) → machine v a b' r ≡ with_stage (machine v a b r) root b'
root_changed v a b b' r = λ i. record { hardware = v; stage = λ k. at k i; routes = r }
  where
    at : (k : Kernel) → by_kernel a b' k ≡ cond (same k root) b' (by_kernel a b k)
    at head = refl
    at root = refl

module _ {X : Type 0} (says : X → Reply) (r : Routes) (q : X) (x : Reply) (e : x ≡ says q) where
  -- at the stage of the head, and at the stage of the root
  pub head_says : (R : StageModel → X → StageModel → Type 0) (v : View) (a a' b : StageModel) → R a q a' → Answered (AtStage head R) says (machine v a b r) x (machine v a' b r)
  head_says R v a a' b h = record { result = q; does = (a', h, head_changed v a a' b r); answers = e }

  pub root_says : (R : StageModel → X → StageModel → Type 0) (v : View) (a b b' : StageModel) → R b q b' → Answered (AtStage root R) says (machine v a b r) x (machine v a b' r)
  root_says R v a b b' h = record { result = q; does = (b', h, root_changed v a b b' r); answers = e }

-- ---- a call of the stage of kernel k, by what the machine's own call returns

module _ {X E : Type 0} (f : X → Answer) (of : E → Fault) (says : Kernel → Result X E → Reply)
    (well : (j : Kernel) (x : X) → Ok (f x) ≡ says j (Ok x)) (ill : (j : Kernel) (e : E) → Err (record { fault = of e; place = kernel j }) ≡ says j (Err e))
    (R : StageModel → Result X E → StageModel → Type 0) (v : View) (a b : StageModel) (r : Routes) (k : Kernel) where
  -- a refusal that `?` carried on with its place
  refused : (j : Kernel) (q : Result X MachineFault) (t : Fault) (e : E) → t ≡ of e → IsErrAnd q (λ y. y ≡ record { fault = t; place = kernel j })
      → replied f q ≡ says j (Err e)
  refused j q t e d h =
      let p = err_from_is_err_and q h in
      ap (replied f) (p.1 ∙ ap Err p.2) ∙ ap (λ z. Err (record { fault = z; place = kernel j })) d ∙ ill j e

  pub head_well : k ≡ head → (a' : StageModel) (x : X) → R a (Ok x) a' → Answered (AtStage k R) (says k) (machine v a b r) (Ok (f x)) (machine v a' b r)
  head_well e a' x h =
      subst (λ j. Answered (AtStage j R) (says j) (machine v a b r) (Ok (f x)) (machine v a' b r)) (sym e) (head_says (says head) r (Ok x) (Ok (f x)) (well head x) R v a a' b h)

  pub root_well : k ≡ root → (b' : StageModel) (x : X) → R b (Ok x) b' → Answered (AtStage k R) (says k) (machine v a b r) (Ok (f x)) (machine v a b' r)
  root_well e b' x h =
      subst (λ j. Answered (AtStage j R) (says j) (machine v a b r) (Ok (f x)) (machine v a b' r)) (sym e) (root_says (says root) r (Ok x) (Ok (f x)) (well root x) R v a b b' h)

  pub head_ill : k ≡ head → (a' : StageModel) (t : Fault) (q : Result X MachineFault) → ((e : E) × R a (Err e) a' × (t ≡ of e)) → IsErrAnd q (λ y. y ≡ record { fault = t; place = kernel head })
      → Answered (AtStage k R) (says k) (machine v a b r) (replied f q) (machine v a' b r)
  head_ill e a' t q (x, h, d) i =
      subst (λ j. Answered (AtStage j R) (says j) (machine v a b r) (replied f q) (machine v a' b r)) (sym e) (head_says (says head) r (Err x) (replied f q) (refused head q t x d i) R v a a' b h)

  pub root_ill : k ≡ root → (b' : StageModel) (t : Fault) (q : Result X MachineFault) → ((e : E) × R b (Err e) b' × (t ≡ of e)) → IsErrAnd q (λ y. y ≡ record { fault = t; place = kernel root })
      → Answered (AtStage k R) (says k) (machine v a b r) (replied f q) (machine v a b' r)
  root_ill e b' t q (x, h, d) i =
      subst (λ j. Answered (AtStage j R) (says j) (machine v a b r) (replied f q) (machine v a b' r)) (sym e) (root_says (says root) r (Err x) (replied f q) (refused root q t x d i) R v a b b' h)

-- ---- next

none_before_head : (j : Kernel) → before j head ≡ true → ⊥
none_before_head head e = let z : ◌≡◌ {A = ℕ} 0 1 = cc in omega arith
none_before_head root e = let z : ◌≡◌ {A = ℕ} 0 1 = cc in omega arith

pub head_nexts : (v : View) (a a' b : StageModel) (r : Routes) (q : Option ℕ) → Through Takes a q a' → Nexts head (machine v a b r) (take_says q) (machine v a' b r)
head_nexts v a a' b r q h =
    inr (inr (λ x. none_before_head x.0 x.1, λ x. none_before_head x.0 x.1, head_says take_says r q (take_says q) refl (Through Takes) v a a' b h))

module _ (v : View) (a b : StageModel) (r : Routes) where
  pub not_held : (AllBlocked a → ⊥) → Held (machine v a b r) root → ⊥
  not_held n (head, p, e) = n e
  not_held n (root, p, e) = let z : ◌≡◌ {A = ℕ} 0 1 = cc in omega arith

  pub not_busy : (Occupied a → ⊥) → Busy (machine v a b r) root → ⊥
  not_busy n (head, p, e) = n e
  not_busy n (root, p, e) = let z : ◌≡◌ {A = ℕ} 0 1 = cc in omega arith

  pub root_nexts : (b' : StageModel) (q : Option ℕ) → (AllBlocked a → ⊥) → (Occupied a → ⊥) → Through Takes b q b' → Nexts root (machine v a b r) (take_says q) (machine v a b' r)
  root_nexts b' q n o h = inr (inr (not_held n, not_busy o, root_says take_says r q (take_says q) refl (Through Takes) v a b b' h))
