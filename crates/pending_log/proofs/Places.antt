-- The first line by place is the lowest.
use Rattle.std.proofs.Common.{◌≡◌, ℕ, ◌≤◌, Bool, true, false, cond, Some, None, Option, refl, ap, ◌∙◌, inl, inr, arith}
use Rattle.std.proofs.lemmas.Bool.{both_ways, cases_lt, lt-ltb, ltb-true, ltb-false}
use Rattle.std.proofs.lemmas.Bool.Decides.{nat_tests}
use Rattle.lines.specs.Sets.{has, Lowest, Finds}
use Rattle.lines.proofs.Laws.{has_none}
use Rattle.controller.specs.View.{ahead_by}
use Rattle.controller.specs.Picks.{Picks, Over}
use Rattle.pending_log.specs.Places.{place_order, over_service}

-- a line that is not smaller does not go before
behind : (m n : ℕ) → n ≤ m → ahead_by place_order m n ≡ false
behind m n h = grind (arith, nat_tests)

-- no line of a set is below its lowest
lowest_le : (s n m : ℕ) → Lowest s n → has s m ≡ true → n ≤ m
lowest_le s n m l h = elim (cases_lt m n) [ inl b ↦ absurd (both_ways _ (l.least m b) h) | inr g ↦ g ]

none_in : (s m : ℕ) → s ≡ 0 → has s m ≡ true → ⊥
none_in s m e h = both_ways _ (ap (λ z. has z m) e ∙ has_none m) h

pub picks_lowest : (s : ℕ) (r : Option ℕ) → Finds s r → Picks (ahead_by place_order) (λ n. has s n ≡ true) r
picks_lowest s None e = λ n h. none_in s n e h
picks_lowest s (Some n) l = record { one = l.one; before = λ m h. behind m n (lowest_le s n m l h) }

-- the first line of s that is above every line of t
module _ (s t : ℕ) where
  at : (n m : ℕ) → Lowest s n → Lowest t m → (x : Bool) → place_order n m ≡ x → Picks (ahead_by place_order) (Over place_order s t) (cond x (Some n) None)
  at n m l k true e =
      let b = ltb-true n m e in
      record {
        one = (l.one, λ j h. lt-ltb n j (omega (arith, lowest_le t m j k h)));
        before = λ j h. behind j n (lowest_le s n j l h.0);
      }
  at n m l k false e =
      let b = ltb-false n m e in
      λ j h. let c = ltb-true j m (h.1 m k.one) in omega (arith, lowest_le s n j l h.0)

  pub picks_over : (f r : Option ℕ) → Finds s f → Finds t r → Picks (ahead_by place_order) (Over place_order s t) (over_service f r)
  picks_over None r e k = λ n h. none_in s n e h.0
  picks_over (Some n) None l e =
      record { one = (l.one, λ m h. absurd (none_in t m e h)); before = λ m h. behind m n (lowest_le s n m l h.0) }
  picks_over (Some n) (Some m) l k = at n m l k _ refl
