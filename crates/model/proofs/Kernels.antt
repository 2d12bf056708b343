-- Kernels told apart by their rank, and a machine with one stage changed.
use Rattle.std.proofs.Common.{◌≡◌, ℕ, zero, suc, ◌<◌, Bool, true, false, cond, ◌⊎◌, List, [], ◌∷◌, sym, refl, ap, ◌∙◌, subst, inl, inr, arith}
use Rattle.std.proofs.lemmas.Bool.{eqb-true, cases_Bool, cond-true, cond-false, both_ways, and_parts, and_from, ltb-true, lt-ltb}
use Rattle.lines.specs.Sets.{has, common}
use Rattle.lines.proofs.Laws.{has-common}
use Rattle.model.specs.declared.calls.Kernel.{Kernel}
use Rattle.model.specs.declared.calls.Kernel.TheVariants.{Head as head, Root as root}
use Rattle.model.specs.Stage.{StageModel}
use Rattle.model.specs.Machine.{MachineModel, Routes, rank, pipeline, before, same, passed_to, with_stage}
use Rattle.model.specs.Promises.{RoutedMeans}

of_rank : ℕ → Kernel
of_rank zero = head
of_rank (suc n) = root

back : (k : Kernel) → of_rank (rank k) ≡ k
unfolding of_rank
back head = refl
back root = refl

pub same_kernel : (j k : Kernel) → same j k ≡ true → j ≡ k
same_kernel j k e = sym (back j) ∙ ap of_rank (eqb-true (rank j) (rank k) e) ∙ back k

-- "stands before" carries through
pub before_through : (i j k : Kernel) → before j k ≡ true → before i j ≡ true → before i k ≡ true
before_through i j k p q =
    let x : rank j < rank k = ltb-true (rank j) (rank k) p in
    let y : rank i < rank j = ltb-true (rank i) (rank j) q in
    lt-ltb (rank i) (rank k) (omega arith)

-- a fact about the stages after one is changed, from one about the new stage and one about each that stays
pub stage_cases : (P : StageModel → Type 0) (m : MachineModel) (k : Kernel) (s : StageModel) (j : Kernel) → (j ≡ k → P s) → P (m.stage j) → P ((with_stage m k s).stage j)
stage_cases P m k s j here there =
    elim (cases_Bool (same j k)) [
      | inl e ↦ subst P (sym (cond-true (same j k) s (m.stage j) e)) (here (same_kernel j k e))
      | inr e ↦ subst P (sym (cond-false (same j k) s (m.stage j) e)) there
    ]

-- ---- routes

-- the kernel is in the list
abbrev pub In : Kernel → List Kernel → Type 0
In j [] = ⊥
In j (i ∷ l) = (j ≡ i) ⊎ In j l

pub all_in : (j : Kernel) → In j pipeline
all_in head = inl refl
all_in root = inr (inl refl)

module _ (r : Routes) (k : Kernel) (n : ℕ) where
  one_in : (b : Bool) (p s : ℕ) → has (cond b (common p s) s) n ≡ true → (has s n ≡ true) × (b ≡ true → has p n ≡ true)
  one_in true p s h = let q = and_parts _ _ (sym (has-common p s n) ∙ h) in (q.1, λ e. q.0)
  one_in false p s h = (h, λ e. absurd (both_ways _ refl e))

  in_one : (b : Bool) (p s : ℕ) → has s n ≡ true → (b ≡ true → has p n ≡ true) → has (cond b (common p s) s) n ≡ true
  in_one true p s h f = has-common p s n ∙ and_from _ _ (f refl) h
  in_one false p s h f = h

  passed_in : (l : List Kernel) (s : ℕ) → has (passed_to r k l s) n ≡ true
      → (has s n ≡ true) × ((j : Kernel) → In j l → before j k ≡ true → has (r.passes j) n ≡ true)
  passed_in [] s h = (h, λ j i. absurd i)
  passed_in (i ∷ l) s h =
      let q = passed_in l _ h in
      let p = one_in (before i k) (r.passes i) s q.0 in
      (p.0, λ j w. elim w [ inl e ↦ subst (λ x. before x k ≡ true → has (r.passes x) n ≡ true) (sym e) p.1 | inr x ↦ q.1 j x ])

  in_passed : (l : List Kernel) (s : ℕ) → has s n ≡ true → ((j : Kernel) → before j k ≡ true → has (r.passes j) n ≡ true)
      → has (passed_to r k l s) n ≡ true
  in_passed [] s h f = h
  in_passed (i ∷ l) s h f = in_passed l _ (in_one (before i k) (r.passes i) s h (f i)) f

pub routed_means : RoutedMeans
routed_means r k n = (
  λ h. let q = passed_in r k n pipeline (r.handles k) h in (q.0, λ j. q.1 j (all_in j)),
  λ h. in_passed r k n pipeline (r.handles k) h.0 h.1,
)
