-- The loop of the pump.
use Rattle.std.proofs.Common.{◌≡◌, ℕ, suc, ◌+◌, ◌≤◌, Some, None, Ok, sym, ap, ◌∙◌, subst, arith}
use Rattle.lines.specs.declared.line_set.LineSet.{LineSet}
use Rattle.lines.specs.Sets.{union, only, size, with_line}
use Rattle.lines.proofs.Sizes.{size_none}
use Rattle.lines.proofs.Algebra.{with_small}
use Rattle.controller.specs.View.{First, Deliverable, ahead}
use Rattle.model.specs.declared.calls.Answer.TheVariants.{Arrived as arrived}
use Rattle.model.specs.Arrivals.{Front, Arrivals, cleared}
use Rattle.model.specs.Machine.{MachineModel, pumped, Answered, Pumps, pump_says}
use Rattle.model.proofs.Pump.{front_none, front_more, front_size, front_all, front_full, pumped_none, pumped_more}
use Rattle.machine.specs.Arriving.{Arrives}

-- so many lines of m's hardware have arrived, which are the first, and x is what is left
pub record SoFar (m x : MachineModel) (n count set : ℕ) : Type 0 where
  pub front : Front m.hardware set
  pub counted : size set ≡ count
  pub few : count ≤ n
  pub left : x ≡ pumped m set

pub so_far_none : (m : MachineModel) (n count set : ℕ) → count ≡ 0 → set ≡ 0 → SoFar m m n count set
so_far_none m n count set e q =
    record {
      front = subst (Front m.hardware) (sym q) (front_none m.hardware);
      counted = ap size q ∙ size_none ∙ sym e;
      few = omega arith;
      left = sym (pumped_none m) ∙ ap (pumped m) (sym q);
    }

pub so_far_more : (m x y : MachineModel) (n count set line count' set' : ℕ) → SoFar m x n count set → suc count ≤ n → Arrives x (Some line) y
    → count' ≡ count + 1 → set' ≡ with_line 64 set line → SoFar m y n count' set'
so_far_more m x y n count set line count' set' s h (t, p, k) ec es =
    let e = s.left in
    let t' : First (ahead (cleared m.hardware set)) (Deliverable (cleared m.hardware set)) line
    = subst (λ z. First (ahead z.hardware) (Deliverable z.hardware) line) e t in
    let q : set' ≡ union set (only line) = es ∙ with_small 64 set line k in
    let z = front_size m.hardware set line t' in
    let c = s.counted in
    let i : size set' ≡ suc (size set) = ap size q ∙ z in
    record {
      front = subst (Front m.hardware) (sym q) (front_more m.hardware set line s.front t');
      counted = omega arith;
      few = omega arith;
      left = p ∙ ap (λ v. pumped v (only line)) e ∙ pumped_more m set (only line) ∙ ap (pumped m) (sym q);
    }

answered : (m y : MachineModel) (limit n count : ℕ) (set : LineSet) → n ≤ limit → Arrivals m.hardware n set.bits → size set.bits ≡ count → y ≡ pumped m set.bits
    → Answered (Pumps {E = Unit {0}} limit n) pump_says m (Ok (arrived count set)) y
answered m y limit n count set h a e l = record { result = Ok set.bits; does = (h, a, l); answers = ap (λ c. Ok (arrived c set)) (sym e) }

-- no line is deliverable any more
pub so_far_all : (m x y : MachineModel) (limit n count : ℕ) (set : LineSet) → n ≤ limit → SoFar m x n count set.bits → Arrives x None y
    → Answered (Pumps {E = Unit {0}} limit n) pump_says m (Ok (arrived count set)) y
so_far_all m x y limit n count set h s (t, p) =
    let c = s.counted in
    let f = s.few in
    answered m y limit n count set h
    (front_all m.hardware n set.bits s.front (omega arith) (subst (λ z. (k : ℕ) → Deliverable z.hardware k → ⊥) s.left t)) c (p ∙ s.left)

-- as many as were asked for have arrived
pub so_far_full : (m x : MachineModel) (limit n count : ℕ) (set : LineSet) → n ≤ limit → SoFar m x n count set.bits → n ≤ count
    → Answered (Pumps {E = Unit {0}} limit n) pump_says m (Ok (arrived count set)) x
so_far_full m x limit n count set h s k =
    let c = s.counted in
    let f = s.few in
    answered m x limit n count set h (front_full m.hardware n set.bits s.front (omega arith)) c s.left
