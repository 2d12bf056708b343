-- Playing a list of calls.
use Rattle.std.proofs.Common.{◌≡◌, ℕ, ◌<◌, List, [], ◌∷◌, ◌++◌, length, get_or, sym, refl, ap, ◌∙◌, subst, le_of_suc-le-suc, not-suc-le-zero, arith}
use Rattle.model.specs.declared.calls.Call.{Call}
use Rattle.model.specs.Machine.{MachineModel, Reply, Step}
use Rattle.model.specs.Run.{Run, calls, answers}
use Rattle.model.proofs.Runs.{run_more}
use Rattle.machine.specs.Played.{entries}

entries_none : (cs : List Call) → entries cs [] ≡ []
entries_none [] = refl
entries_none (c ∷ cs) = refl

entries_push : (cs : List Call) (l : List Reply) (a : Reply) (d : Call) → length l < length cs
    → entries cs (l ++ (a ∷ [])) ≡ entries cs l ++ (record { call = get_or cs (length l) d; answer = a } ∷ [])
entries_push [] l a d h = absurd (not-suc-le-zero h)
entries_push (c ∷ cs) [] a d h = ap (λ r. record { call = c; answer = a } ∷ r) (entries_none cs)
entries_push (c ∷ cs) (b ∷ l) a d h = ap (λ r. record { call = c; answer = b } ∷ r) (entries_push cs l a d (le_of_suc-le-suc h))

pub run_none : (m : MachineModel) (cs : List Call) (l : List Reply) → l ≡ [] → Run m (entries cs l) m
run_none m cs l e = subst (λ z. Run m z m) (sym (ap (entries cs) e ∙ entries_none cs)) refl

pub run_push : (m x y : MachineModel) (cs : List Call) (l : List Reply) (a : Reply) (d : Call) (i : ℕ) → length l ≡ i → i < length cs
    → Run m (entries cs l) x → Step x (get_or cs i d) a y → Run m (entries cs (l ++ (a ∷ []))) y
run_push m x y cs l a d i e h r st =
    subst (λ z. Run m z y) (sym (entries_push cs l a d (subst (λ k. k < length cs) (sym e) h)))
    (run_more m x y (entries cs l) (record { call = get_or cs (length l) d; answer = a }) r
    (subst (λ k. Step x (get_or cs k d) a y) (sym e) st))

-- a list played whole: its calls and its answers
pub entries_calls : (cs : List Call) (l : List Reply) → length l ≡ length cs → calls (entries cs l) ≡ cs
entries_calls [] l e = refl
entries_calls (c ∷ cs) [] e = absurd (omega arith)
entries_calls (c ∷ cs) (a ∷ l) e = ap (λ r. c ∷ r) (entries_calls cs l (omega arith))

pub entries_answers : (cs : List Call) (l : List Reply) → length l ≡ length cs → answers (entries cs l) ≡ l
entries_answers [] [] e = refl
entries_answers [] (a ∷ l) e = absurd (omega arith)
entries_answers (c ∷ cs) [] e = refl
entries_answers (c ∷ cs) (a ∷ l) e = ap (λ r. a ∷ r) (entries_answers cs l (omega arith))
