-- The pump, one arrival at a time.
use Rattle.std.proofs.Common.{◌≡◌, ℕ, zero, suc, ◌+◌, ◌≤◌, false, sym, ap, ◌∙◌, subst, inl, inr, arith}
use Rattle.std.proofs.lemmas.Bool.{cases_Bool, both_ways}
use Rattle.std.proofs.lemmas.Bool.Decides.{nat_tests}
use Rattle.lines.specs.Sets.{has, union, common, minus, only, size}
use Rattle.lines.proofs.Laws.{ext, has-union, has-common, has-minus, has_none}
use Rattle.lines.proofs.Algebra.{in_minus, minus_in, union_none, union_assoc}
use Rattle.lines.proofs.Sizes.{size_none, size_in}
use Rattle.controller.specs.View.{View, Sound, First, Deliverable, ahead, set_pending}
use Rattle.controller.proofs.Keeps.{in_with}
use Rattle.controller.proofs.Served.{taken_ended}
use Rattle.model.specs.Arrivals.{Front, Arrivals, cleared, Passes}
use Rattle.model.specs.Stage.{set_own}
use Rattle.model.specs.Machine.{MachineModel, taken_up, pumped}
use Rattle.model.specs.Promises.{OneByOne}
use Rattle.model.proofs.Steps.{cleared_sound}

-- ---- sets

minus-union : (w s t : ℕ) → minus (minus w s) t ≡ minus w (union s t)
minus-union w s t = ext _ _ (λ m. simp (has-union, has-minus) (grind (arith, nat_tests)))

minus_none : (w : ℕ) → minus w 0 ≡ w
minus_none w = ext _ _ (λ m. simp (has-minus, has_none) (grind (arith, nat_tests)))

none_union : (s : ℕ) → union 0 s ≡ s
none_union s = ext _ _ (λ m. simp (has-union, has_none) (grind (arith, nat_tests)))

pub cleared_none : (v : View) → cleared v 0 ≡ v
cleared_none v = ap (set_pending v) (minus_none v.pending)

pub cleared_more : (v : View) (s t : ℕ) → cleared (cleared v s) t ≡ cleared v (union s t)
cleared_more v s t = ap (set_pending v) (minus-union v.pending s t)

-- ---- what is deliverable once the lines of s are gone

pub deliverable_before : (v : View) (s k : ℕ) → Deliverable (cleared v s) k → Deliverable v k × (has s k ≡ false)
deliverable_before v s k d =
    let p = in_minus v.pending s k d.pends in
    (record { pends = p.0; unmasked = d.unmasked; unblocked = d.unblocked; over = d.over }, p.1)

pub deliverable_still : (v : View) (s k : ℕ) → Deliverable v k → has s k ≡ false → Deliverable (cleared v s) k
deliverable_still v s k d h =
    record { pends = minus_in v.pending s k d.pends h; unmasked = d.unmasked; unblocked = d.unblocked; over = d.over }

-- ---- the first lines, one more at a time

pub front_none : (v : View) → Front v 0
front_none v =
    record { ready = λ k h. absurd (both_ways (has 0 k) (has_none k) h); before = λ a b h d n. absurd (both_ways (has 0 a) (has_none a) h) }

outside : (s n k : ℕ) → has (union s (only n)) k ≡ false → has s k ≡ false
outside s n k h = let e = has-union s (only n) k in grind (arith, nat_tests)

-- the next line that is taken goes behind those before it and before the others
pub front_more : (v : View) (s n : ℕ) → Front v s → First (ahead (cleared v s)) (Deliverable (cleared v s)) n → Front v (union s (only n))
front_more v s n f t =
    record {
      ready = λ k h. elim (in_with s n k h) [
        | inl e ↦ f.ready k e
        | inr e ↦ subst (Deliverable v) (sym e) (deliverable_before v s n t.one).0
      ];
      before = λ a b h d l.
          let o = outside s n b l in
          elim (in_with s n a h) [
            | inl e ↦ f.before a b e d o
            | inr e ↦ subst (λ x. ahead v b x ≡ false) (sym e) (t.before b (deliverable_still v s b d o))
          ];
    }

pub front_size : (v : View) (s n : ℕ) → First (ahead (cleared v s)) (Deliverable (cleared v s)) n → size (union s (only n)) ≡ suc (size s)
front_size v s n t = size_in n s (deliverable_before v s n t.one).1

-- none is deliverable any more, or as many as were asked for are taken
pub front_all : (v : View) (n s : ℕ) → Front v s → size s ≤ n → ((k : ℕ) → Deliverable (cleared v s) k → ⊥) → Arrivals v n s
front_all v n s f h none =
    record {
      front = f;
      most = h;
      enough = inr (λ k d. elim (cases_Bool (has s k)) [ inl e ↦ e | inr e ↦ absurd (none k (deliverable_still v s k d e)) ]);
    }

pub front_full : (v : View) (n s : ℕ) → Front v s → size s ≡ n → Arrivals v n s
front_full v n s f e = record { front = f; most = omega arith; enough = inl e }

-- ---- all of them

passes_on : (n : ℕ) (v w : View) (s t : ℕ) → Sound v → Front v s → Passes n (cleared v s) t w → Arrivals v (size s + n) (union s t) × (w ≡ cleared v (union s t))
passes_on zero v w s t o f (e, q) =
    let a : union s t ≡ s = ap (union s) e ∙ union_none s in
    (subst (Arrivals v (size s + 0)) (sym a) (front_full v (size s + 0) s f (omega arith)), q ∙ ap (cleared v) (sym a))
passes_on (suc n) v w s t o f (inl (h, e)) =
    let a : union s t ≡ s = ap (union s) e ∙ union_none s in
    (subst (Arrivals v (size s + suc n)) (sym a) (front_all v (size s + suc n) s f (omega arith) h.0), h.1 ∙ ap (cleared v) (sym a))
passes_on (suc n) v w s t o f (inr (k, t', u, x, r, h, e, p, q)) =
    let i : x ≡ cleared v (union s (only k)) = (taken_ended (cleared v s) (cleared_sound v s o) k h.0.one r u x h.1 e).1 ∙ cleared_more v s (only k) in
    let g = passes_on n v w (union s (only k)) t' o (front_more v s k f h.0) (subst (λ z. Passes n z t' w) i p) in
    let a : union (union s (only k)) t' ≡ union s t = sym (union_assoc s (only k) t') ∙ ap (union s) (sym q) in
    let b : size (union s (only k)) + n ≡ size s + suc n = let z = front_size v s k h.0 in omega arith in
    (subst (Arrivals v (size s + suc n)) a (subst (λ z. Arrivals v z (union (union s (only k)) t')) b g.0), g.1 ∙ ap (cleared v) a)

pub one_by_one : OneByOne
one_by_one v w n s o p =
    let g = passes_on n v w 0 s o (front_none v) (subst (λ z. Passes n z s w) (sym (cleared_none v)) p) in
    let b : size 0 + n ≡ n = let z = size_none in omega arith in
    (subst (Arrivals v n) (none_union s) (subst (λ z. Arrivals v z (union 0 s)) b g.0), g.1 ∙ ap (cleared v) (none_union s))

-- ---- what is left after one arrival more

none_arrives : (w r : ℕ) → union w (common 0 r) ≡ w
none_arrives w r = ext _ _ (λ m. simp (has-union, has-common, has_none) (grind (arith, nat_tests)))

more_arrive : (w s t r : ℕ) → union (union w (common s r)) (common t r) ≡ union w (common (union s t) r)
more_arrive w s t r = ext _ _ (λ m. simp (has-union, has-common) (grind (arith, nat_tests)))

pub pumped_none : (m : MachineModel) → pumped m 0 ≡ m
pumped_none m = λ i.
    record {
      hardware = cleared_none m.hardware i;
      stage = λ k. set_own (m.stage k) (set_pending (m.stage k).own (none_arrives (m.stage k).own.pending (taken_up m k) i));
      routes = m.routes;
    }

pub pumped_more : (m : MachineModel) (s t : ℕ) → pumped (pumped m s) t ≡ pumped m (union s t)
pumped_more m s t = λ i.
    record {
      hardware = cleared_more m.hardware s t i;
      stage = λ k. set_own (m.stage k) (set_pending (m.stage k).own (more_arrive (m.stage k).own.pending s t (taken_up m k) i));
      routes = m.routes;
    }
