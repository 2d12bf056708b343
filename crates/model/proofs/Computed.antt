-- The answers of a controller, computed from what it tells.
use Rattle.std.proofs.Common.{◌≡◌, ℕ, zero, suc, ◌<◌, Bool, true, false, cond, not, ◌&&◌, ◌||◌, eqb, Some, None, Ok, Err, Option, Result, sym, refl, ap, ◌∙◌, subst, inl, inr, arith}
use Rattle.std.proofs.lemmas.Bool.{cases_Bool, cases_eq, both_ways, and_parts, and_from, or_cases, or_left, or_right, not-true, not_from_false, cond-true, cond-false, eqb-true, eqb-false}
use Rattle.lines.specs.Sets.{has, minus}
use Rattle.lines.proofs.Algebra.{within_from, from_within, empty_from}
use Rattle.controller.specs.declared.fault.ControllerFault.{ControllerFault}
use Rattle.controller.specs.declared.fault.ControllerFault.TheVariants.{NoSuchLine, MaskOutside, NothingInService}
use Rattle.controller.specs.declared.fault.Raised.{Raised}
use Rattle.controller.specs.declared.fault.Raised.TheVariants.{New, Merged}
use Rattle.controller.specs.View.{View, Sound, First, Deliverable, Serving, ahead, raised, set_masked, taken, ended}
use Rattle.controller.specs.Calls.{Raises, Masks, Takes, Ends}
use Rattle.controller.specs.Picks.{Picks, winner}
use Rattle.controller.proofs.Order.{LineOrder, order_of}

-- ---- a test over the first lines

unfoldable pub every : ℕ → (ℕ → Bool) → Bool
every zero f = true
every (suc n) f = cond (f n) (every n f) false

pub true_every : (n : ℕ) (f : ℕ → Bool) → ((k : ℕ) → f k ≡ true) → every n f ≡ true
unfolding every
true_every zero f h = refl
true_every (suc n) f h = cond-true (f n) (every n f) false (h n) ∙ true_every n f h

pub every_true : (n : ℕ) (f : ℕ → Bool) → every n f ≡ true → (k : ℕ) → k < n → f k ≡ true
unfolding every
every_true zero f h k l = absurd (let z : ⊥ = omega arith in z)
every_true (suc n) f h k l =
    elim (cases_Bool (f n)) [
      | inl e ↦ elim (cases_eq k n) [
        | inl q ↦ ap f q ∙ e
        | inr q ↦ every_true n f (sym (cond-true (f n) (every n f) false e) ∙ h) k (let z : k < n = omega arith in z)
      ]
      | inr e ↦ absurd (both_ways false refl (sym (cond-false (f n) (every n f) false e) ∙ h))
    ]

-- whether two tests agree
abbrev pub same_test : Bool → Bool → Bool
same_test true y = y
same_test false y = not y

pub same_true : (x y : Bool) → same_test x y ≡ true → x ≡ y
same_true true y h = sym h
same_true false y h = sym (not-true y h)

-- ---- the first line that passes a test

-- the first of the lines below k that pass f
unfoldable pub first_below : (ℕ → ℕ → Bool) → (ℕ → Bool) → ℕ → Option ℕ
first_below goes f zero = None
first_below goes f (suc k) = let best = first_below goes f k in cond (f k) (Some (winner goes best k)) best

-- line n is below k and passes f
abbrev Passing : (ℕ → Bool) → ℕ → ℕ → Type 0
Passing f k n = (n < k) × (f n ≡ true)

module _ (goes above : ℕ → ℕ → Bool) (o : LineOrder goes above) (f : ℕ → Bool) where
  module _ (k : ℕ) where
    -- a line below k + 1 is below k or is k
    step : (P : ℕ → Type 0) → ((n : ℕ) → Passing f k n → P n) → (f k ≡ true → P k) → (n : ℕ) → Passing f (suc k) n → P n
    step P below here n (l, h) = elim (cases_eq n k) [
      | inl e ↦ subst P (sym e) (here (sym (ap f e) ∙ h))
      | inr d ↦ below n (omega arith, h)
    ]

    better : (best : Option ℕ) → Picks goes (Passing f k) best → f k ≡ true → First goes (Passing f (suc k)) (winner goes best k)
    better None p h =
        record { one = (omega arith, h); before = step (λ n. goes n k ≡ false) (λ n q. absurd (p n q)) (λ e. o.irreflexive k) }
    better (Some b) p h = at (goes b k) refl where
      at : (x : Bool) → goes b k ≡ x → First goes (Passing f (suc k)) (cond x b k)
      at true e =
          let q = p.one in
          record { one = (let l = q.0 in omega arith, q.1); before = step (λ n. goes n b ≡ false) (λ n y. p.before n y) (λ y. o.asymmetric b k e) }
      at false e =
          record { one = (omega arith, h); before = step (λ n. goes n k ≡ false) (λ n y. o.behind n b k (p.before n y) e) (λ y. o.irreflexive k) }

    same : (best : Option ℕ) → Picks goes (Passing f k) best → f k ≡ false → Picks goes (Passing f (suc k)) best
    same None p h = step (λ n. ⊥) p (λ e. both_ways (f k) h e)
    same (Some b) p h =
        let q = p.one in
        record { one = (let l = q.0 in omega arith, q.1); before = step (λ n. goes n b ≡ false) p.before (λ e. absurd (both_ways (f k) h e)) }

  pub first_picked : (k : ℕ) → Picks goes (Passing f k) (first_below goes f k)
  unfolding first_below
  first_picked zero = λ n q. let l = q.0 in omega arith
  first_picked (suc k) =
      elim (cases_Bool (f k)) [
        | inl e ↦ subst (Picks goes (Passing f (suc k))) (sym (cond-true (f k) _ _ e)) (better k (first_below goes f k) (first_picked k) e)
        | inr e ↦ subst (Picks goes (Passing f (suc k))) (sym (cond-false (f k) _ _ e)) (same k (first_below goes f k) (first_picked k) e)
      ]

-- the same lines by another word
pub picks_as : (goes : ℕ → ℕ → Bool) (P Q : ℕ → Type 0) → ((n : ℕ) → P n → Q n) → ((n : ℕ) → Q n → P n) → (r : Option ℕ) → Picks goes P r → Picks goes Q r
picks_as goes P Q to from None p = λ n q. p n (from n q)
picks_as goes P Q to from (Some n) p = record { one = to n p.one; before = λ m q. p.before m (from m q) }

-- ---- deliverable, by a test

unfoldable pub is_deliverable : View → ℕ → Bool
unfolding every
is_deliverable v n =
    (has v.pending n && not (has v.masked n)) && (not (has v.blocked n) && every 64 (λ k. not (has v.in_service k) || v.above n k))

module _ (v : View) (o : Sound v) where
  over_test : (n k : ℕ) → (has v.in_service k ≡ true → v.above n k ≡ true) → (not (has v.in_service k) || v.above n k) ≡ true
  over_test n k h =
      elim (cases_Bool (has v.in_service k)) [
        | inl e ↦ or_right (not (has v.in_service k)) _ (h e)
        | inr e ↦ or_left (not (has v.in_service k)) _ (not_from_false _ e)
      ]

  pub deliverable_test : (n : ℕ) → Deliverable v n → is_deliverable v n ≡ true
  unfolding is_deliverable
  deliverable_test n d =
      and_from _ _ (and_from _ _ d.pends (not_from_false _ d.unmasked))
      (and_from _ _ (not_from_false _ d.unblocked) (true_every 64 (λ k. not (has v.in_service k) || v.above n k) (λ k. over_test n k (d.over k))))

  pub test_deliverable : (n : ℕ) → is_deliverable v n ≡ true → Deliverable v n
  unfolding is_deliverable
  test_deliverable n h =
      let p = and_parts (has v.pending n && not (has v.masked n)) _ h in
      let q = and_parts (has v.pending n) _ p.0 in
      let r = and_parts (not (has v.blocked n)) _ p.1 in
      record {
        pends = q.0;
        unmasked = not-true _ q.1;
        unblocked = not-true _ r.0;
        over = λ k s.
            elim (or_cases (not (has v.in_service k)) _ (every_true 64 (λ k. not (has v.in_service k) || v.above n k) r.1 k (o.small k (o.service_in k s)))) [
              | inl x ↦ absurd (both_ways _ (not-true _ x) s)
              | inr x ↦ x
            ];
      }

-- ---- what each call answers and leaves

unfoldable pub raise_result : View → ℕ → Result Raised ControllerFault
raise_result v n = cond (has v.lines n) (Ok (cond (has v.pending n) Merged New)) (Err NoSuchLine)

unfoldable pub raise_leaves : View → ℕ → View
raise_leaves v n = cond (has v.lines n) (raised v n) v

unfoldable pub mask_result : View → ℕ → Result (Unit {0}) ControllerFault
mask_result v s = cond (eqb (minus s v.lines) 0) (Ok tt) (Err MaskOutside)

unfoldable pub mask_leaves : View → ℕ → View
mask_leaves v s = cond (eqb (minus s v.lines) 0) (set_masked v s) v

unfoldable pub take_result : View → Option ℕ
unfolding first_below is_deliverable
take_result v = first_below (ahead v) (is_deliverable v) 64

abbrev after_take : View → Option ℕ → View
after_take v (Some n) = taken v n
after_take v None = v

unfoldable pub take_leaves : View → View
unfolding take_result
take_leaves v = after_take v (take_result v)

abbrev end_of : Option ℕ → Result ℕ ControllerFault
end_of (Some n) = Ok n
end_of None = Err NothingInService

abbrev after_end : View → Option ℕ → View
after_end v (Some n) = ended v n
after_end v None = v

unfoldable pub first_serving : View → Option ℕ
unfolding first_below
first_serving v = first_below (ahead v) (has v.in_service) 64

unfoldable pub end_result : View → Result ℕ ControllerFault
unfolding first_serving
end_result v = end_of (first_serving v)

unfoldable pub end_leaves : View → View
unfolding first_serving
end_leaves v = after_end v (first_serving v)

-- ---- it is what the rules say

pub raise_computed : (v : View) (n : ℕ) → Raises v n (raise_result v n) (raise_leaves v n)
unfolding raise_result raise_leaves
raise_computed v n = at (has v.lines n) refl where
  at : (x : Bool) → has v.lines n ≡ x → Raises v n (cond x (Ok (cond (has v.pending n) Merged New)) (Err NoSuchLine)) (cond x (raised v n) v)
  at true e = (e, refl, refl)
  at false e = (e, refl, refl)

pub mask_computed : (v : View) (s : ℕ) → Masks v s (mask_result v s) (mask_leaves v s)
unfolding mask_result mask_leaves
mask_computed v s = at (eqb (minus s v.lines) 0) refl where
  at : (x : Bool) → eqb (minus s v.lines) 0 ≡ x → Masks v s (cond x (Ok tt) (Err MaskOutside)) (cond x (set_masked v s) v)
  at true e = (within_from s v.lines (eqb-true _ 0 e), refl)
  at false e = (λ w. eqb-false _ 0 e (from_within s v.lines w), refl, refl)

module _ (v : View) (o : Sound v) where
  pub take_picks : Picks (ahead v) (Deliverable v) (take_result v)
  unfolding take_result
  take_picks =
      picks_as (ahead v) (Passing (is_deliverable v) 64) (Deliverable v)
      (λ n p. test_deliverable v o n p.1) (λ n d. (o.small n (o.pending_in n d.pends), deliverable_test v o n d))
      (take_result v) (first_picked (ahead v) v.above (order_of v o) (is_deliverable v) 64)

  pub take_computed : Takes v (take_result v) (take_leaves v)
  unfolding take_leaves
  take_computed = at (take_result v) take_picks where
    at : (r : Option ℕ) → Picks (ahead v) (Deliverable v) r → Takes v r (after_take v r)
    at None p = (p, refl)
    at (Some n) p = (p, refl)

  pub end_picks : Picks (ahead v) (Serving v) (first_serving v)
  unfolding first_serving
  end_picks =
      picks_as (ahead v) (Passing (has v.in_service) 64) (Serving v)
      (λ n p. p.1) (λ n s. (o.small n (o.service_in n s), s))
      (first_serving v) (first_picked (ahead v) v.above (order_of v o) (has v.in_service) 64)

  pub end_computed : Ends v (end_result v) (end_leaves v)
  unfolding end_result end_leaves
  end_computed = at (first_serving v) end_picks where
    at : (r : Option ℕ) → Picks (ahead v) (Serving v) r → Ends v (end_of r) (after_end v r)
    at None p = (empty_from v.in_service p, refl, refl)
    at (Some n) p = (p, refl)
