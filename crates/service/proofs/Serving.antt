-- Serving line after line.
use Rattle.std.proofs.Common.{◌≡◌, ℕ, ◌<◌, Bool, true, false, List, [], ◌∷◌, ◌++◌, length, get_or, sym, refl, ap, ◌∙◌, subst, inl, inr, arith}
use Rattle.std.proofs.lemmas.Bool.Decides.{nat_tests}
use Rattle.std.proofs.lemmas.Bool.{both_ways, cases_eq}
use Rattle.std.proofs.lemmas.List.{length_push, get_or_push, get_or_append_left}
use Rattle.lines.specs.Sets.{has, union, common, minus, only, size}
use Rattle.lines.proofs.Laws.{ext, has-union, has-minus, has-only, has_none}
use Rattle.lines.proofs.Algebra.{less}
use Rattle.lines.proofs.Sizes.{size_none, size_in, size_small}
use Rattle.controller.specs.View.{View, Sound, First, Deliverable, ahead, set_pending, fresh}
use Rattle.controller.proofs.Order.{order_of}
use Rattle.controller.proofs.Keeps.{in_with}
use Rattle.controller.proofs.Served.{served, was_deliverable}
use Rattle.service.specs.Bursts.{set_of, raised_all, Serves}
use Rattle.service.proofs.Lists.{set_push}

-- the lines of the list are served by now, and go before all that are still deliverable
pub record Progress (v₀ v : View) (ns : List ℕ) : Type 0 where
  pub view : v ≡ set_pending v₀ (minus v₀.pending (set_of ns))
  pub each : (n : ℕ) → has (set_of ns) n ≡ true → Deliverable v₀ n
  pub counted : size (set_of ns) ≡ length ns
  pub in_order : (i j : ℕ) → i < j → j < length ns → ahead v₀ (get_or ns i 0) (get_or ns j 0) ≡ true
  pub behind : (i m : ℕ) → i < length ns → Deliverable v m → ahead v₀ (get_or ns i 0) m ≡ true

pub progress_none : (v : View) → Progress v v []
progress_none v =
    record {
      view = ap (set_pending v) (ext _ _ (λ m. simp (has-minus, has_none) (grind (arith, nat_tests))));
      each = λ n h. absurd (both_ways _ (has_none n) h);
      counted = size_none;
      in_order = λ i j h k. absurd (omega arith);
      behind = λ i m h d. absurd (omega arith);
    }

module _ (v₀ v : View) (ns : List ℕ) (a : Progress v₀ v ns) where
  -- what is deliverable by now was so at first, and has not been served
  at_first : (m : ℕ) → Deliverable v m → Deliverable v₀ m × (has (set_of ns) m ≡ false)
  at_first m d =
      let p : Deliverable (set_pending v₀ (minus v₀.pending (set_of ns))) m = subst (λ z. Deliverable z m) a.view d in
      let q = p.pends in
      let e = has-minus v₀.pending (set_of ns) m in
      (record { pends = grind (arith, nat_tests); unmasked = p.unmasked; unblocked = p.unblocked; over = p.over }, grind (arith, nat_tests))

  still : (m : ℕ) → Deliverable v₀ m → has (set_of ns) m ≡ false → Deliverable v m
  still m d f =
      let p : Deliverable (set_pending v₀ (minus v₀.pending (set_of ns))) m =
      record { pends = let q = d.pends in simp has-minus (grind (arith, nat_tests)); unmasked = d.unmasked; unblocked = d.unblocked; over = d.over } in
      subst (λ z. Deliverable z m) (sym a.view) p

  same_order : ahead v ≡ ahead v₀
  same_order = ap ahead a.view

  module _ (o : Sound v₀) (n : ℕ) (f : First (ahead v) (Deliverable v) n) where
    new : has (set_of ns) n ≡ false
    new = (at_first n f.one).1

    small : (m : ℕ) → has (union (set_of ns) (only n)) m ≡ true → m < 64
    small m h = elim (in_with _ n m h) [
      | inl x ↦ o.small m (o.pending_in m (a.each m x).pends)
      | inr e ↦ o.small m (o.pending_in m (subst (λ z. has v₀.pending z ≡ true) (sym e) (at_first n f.one).0.pends))
    ]

    -- there is room for one more of the 64
    pub room : length ns < 64
    room = let s = size_small 64 (union (set_of ns) (only n)) small in omega (arith, size_in n (set_of ns) new, a.counted)

    goes_on : (m : ℕ) (x : Bool) → ahead v₀ n m ≡ x → Deliverable v m → (m ≡ n → ⊥) → ahead v₀ n m ≡ true
    goes_on m true e d ne = e
    goes_on m false e d ne = absurd (ne ((order_of v₀ o).connected m n (subst (λ g. g m n ≡ false) same_order (f.before m d)) e))

    without : minus (minus v₀.pending (set_of ns)) (only n) ≡ minus v₀.pending (set_of (ns ++ n ∷ []))
    without = ext _ _ (λ m. let e = has-only n m in rw (set_push ns n) (simp (has-minus, has-union) (grind (arith, nat_tests))))

    pub progress_more : (w : View) → w ≡ served v n → Progress v₀ w (ns ++ n ∷ [])
    progress_more w e =
        record {
          view = e ∙ ap (λ z. served z n) a.view ∙ ap (set_pending v₀) without;
          each = λ m h. elim (in_with (set_of ns) n m (subst (λ s. has s m ≡ true) (set_push ns n) h)) [
            | inl x ↦ a.each m x
            | inr d ↦ subst (Deliverable v₀) (sym d) (at_first n f.one).0
          ];
          counted = let s = size_in n (set_of ns) new in let l = length_push ns n in let c = ap size (set_push ns n) in omega (arith, a.counted);
          in_order = λ i j h k. let l = length_push ns n in elim (cases_eq j (length ns)) [
            | inl d ↦ rw (d, get_or_push ns n 0 (length ns) refl, get_or_append_left ns (n ∷ []) 0 i (omega arith)) (a.behind i n (omega arith) f.one)
            | inr d ↦ rw (get_or_append_left ns (n ∷ []) 0 i (omega arith), get_or_append_left ns (n ∷ []) 0 j (omega arith)) (a.in_order i j h (omega arith))
          ];
          behind = λ i m h d.
              let l = length_push ns n in
              let p = was_deliverable v n m (subst (λ z. Deliverable z m) e d) in
              elim (cases_eq i (length ns)) [
                | inl q ↦ rw (q, get_or_push ns n 0 (length ns) refl) (goes_on m _ refl p.0 p.1)
                | inr q ↦ rw (get_or_append_left ns (n ∷ []) 0 i (omega arith)) (a.behind i m (omega arith) p.0)
              ];
        }

    -- fewer lines pend
    pub progress_less : (w : View) → w ≡ served v n → w.pending < v.pending
    progress_less w e = rw e (less v.pending n f.one.pends)

  pub progress_all : ((m : ℕ) → Deliverable v m → ⊥) → Serves v₀ ns v
  progress_all none =
      record {
        all = λ n. (a.each n, λ d. every n _ refl d);
        in_order = a.in_order;
        leaves = a.view;
      } where
        every : (n : ℕ) (x : Bool) → has (set_of ns) n ≡ x → Deliverable v₀ n → has (set_of ns) n ≡ true
        every n true e d = e
        every n false e d = absurd (none n (still n d e))

-- on a controller as it is made all accepted lines are served
module _ (v : View) (burst : List ℕ) (e : v ≡ fresh v.lines v.above) where
  abbrev accepted : ℕ
  accepted = common (set_of burst) v.lines

  pends_so : union v.pending accepted ≡ accepted
  pends_so = ext _ _ (λ n. let z : has v.pending n ≡ false = ap (λ u. has u.pending n) e ∙ has_none n in simp has-union (grind (arith, nat_tests)))

  can_go : (n : ℕ) → has accepted n ≡ true → Deliverable (raised_all v burst) n
  can_go n h =
      record {
        pends = ap (λ s. has s n) pends_so ∙ h;
        unmasked = ap (λ u. has u.masked n) e ∙ has_none n;
        unblocked = ap (λ u. has u.blocked n) e ∙ has_none n;
        over = λ m s. absurd (both_ways _ (ap (λ u. has u.in_service m) e ∙ has_none m) s);
      }

  module _ (ns : List ℕ) (w : View) (s : Serves (raised_all v burst) ns w) where
    served_at : (n : ℕ) (x : Bool) → has accepted n ≡ x → has (set_of ns) n ≡ has accepted n
    served_at n true h = (s.all n).1 (can_go n h) ∙ sym h
    served_at n false h = not_served _ refl ∙ sym h where
      not_served : (y : Bool) → has (set_of ns) n ≡ y → has (set_of ns) n ≡ false
      not_served true t = absurd (both_ways _ (ap (λ z. has z n) pends_so ∙ h) ((s.all n).0 t).pends)
      not_served false t = t

    all_served : set_of ns ≡ accepted
    all_served = ext _ _ (λ n. served_at n _ refl)

    left : minus (union v.pending accepted) (set_of ns) ≡ v.pending
    left = ap (minus (union v.pending accepted)) all_served ∙ ext _ _ (λ n. let z : has v.pending n ≡ false = ap (λ u. has u.pending n) e ∙ has_none n in simp (has-minus, has-union) (grind (arith, nat_tests)))

    pub serves_fresh : (set_of ns ≡ accepted) × (w ≡ v)
    serves_fresh = (all_served, s.leaves ∙ ap (set_pending v) left)
