-- Picking the first line, one line after another.
use Rattle.std.proofs.Common.{◌≡◌, ℕ, Bool, true, false, cond, ◌⊎◌, Some, None, Option, sym, refl, subst, inl, inr, arith}
use Rattle.std.proofs.lemmas.Bool.{both_ways, cases_eq}
use Rattle.std.proofs.lemmas.Bool.Decides.{nat_tests}
use Rattle.lines.specs.Sets.{has, minus, only, Within}
use Rattle.lines.proofs.Laws.{has-minus, has-only, has_none}
use Rattle.controller.specs.View.{First}
use Rattle.controller.specs.Picks.{Picks, winner}
use Rattle.controller.proofs.Order.{LineOrder}

-- line n of s has been seen: it is not in the rest r
abbrev pub Seen : ℕ → ℕ → ℕ → Type 0
Seen s r n = (has s n ≡ true) × (has r n ≡ false)

module _ (goes above : ℕ → ℕ → Bool) (o : LineOrder goes above) (s r k : ℕ) (i : Within r s) (t : has r k ≡ true) where
  seen_step : (n : ℕ) → Seen s (minus r (only k)) n → Seen s r n ⊎ (n ≡ k)
  seen_step n h = elim (cases_eq n k) [
    | inl e ↦ inr e
    | inr d ↦ inl (h.0, let m = h.1 in let e = has-minus r (only k) n in let f = has-only k n in grind (arith, nat_tests))
  ]

  seen_more : (n : ℕ) → Seen s r n → Seen s (minus r (only k)) n
  seen_more n h = (h.0, let e = h.1 in simp has-minus (grind (arith, nat_tests)))

  seen_new : Seen s (minus r (only k)) k
  seen_new = (i k t, simp (has-minus, has-only) (grind (arith, nat_tests)))

  new_first : ((m : ℕ) → Seen s r m → goes m k ≡ false) → First goes (Seen s (minus r (only k))) k
  new_first h =
      record {
        one = seen_new;
        before = λ m q. elim (seen_step m q) [ inl x ↦ h m x | inr e ↦ subst (λ z. goes z k ≡ false) (sym e) (o.irreflexive k) ];
      }

  winner_at : (b : ℕ) (x : Bool) → goes b k ≡ x → First goes (Seen s r) b → First goes (Seen s (minus r (only k))) (cond x b k)
  winner_at b true e f =
      record {
        one = seen_more b f.one;
        before = λ m q. elim (seen_step m q) [ inl x ↦ f.before m x | inr d ↦ subst (λ z. goes z b ≡ false) (sym d) (o.asymmetric b k e) ];
      }
  winner_at b false e f = new_first (λ m q. o.behind m b k (f.before m q) e)

  pub picks_more : (best : Option ℕ) → Picks goes (Seen s r) best → First goes (Seen s (minus r (only k))) (winner goes best k)
  picks_more None h = new_first (λ m q. absurd (h m q))
  picks_more (Some b) h = winner_at b (goes b k) refl h

  pub rest_in : Within (minus r (only k)) s
  rest_in n h = i n (let e = has-minus r (only k) n in grind (arith, nat_tests))

-- at the start nothing has been seen, and at the end everything
pub picks_none : (goes : ℕ → ℕ → Bool) (s : ℕ) → Picks goes (Seen s s) None
picks_none goes s n h = both_ways _ h.1 h.0

pub picks_all : (goes : ℕ → ℕ → Bool) (s r : ℕ) → r ≡ 0 → (best : Option ℕ) → Picks goes (Seen s r) best → Picks goes (λ n. has s n ≡ true) best
picks_all goes s r e None h = λ n b. h n (b, rw e (has_none n))
picks_all goes s r e (Some m) h = record { one = h.one.0; before = λ n b. h.before n (b, rw e (has_none n)) }
