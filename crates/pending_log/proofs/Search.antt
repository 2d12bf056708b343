-- The search for a line, byte after byte.
use Rattle.std.proofs.Common.{◌≡◌, ℕ, ◌/◌, ◌<◌, zero, suc, ◌+◌, Bool, true, false, ◌&&◌, eqb, Some, None, Option, IfSome, List, [], ◌∷◌, length, subst, sym, refl, ap, ◌∙◌, inl, inr, arith}
use Rattle.std.proofs.lemmas.Bool.{both_ways, cases_lt, cases_eq, eq-eqb, eqb-true}
use Rattle.std.proofs.lemmas.Bool.Decides.{nat_tests}
use Rattle.lines.specs.Sets.{has, minus, only, Lowest}
use Rattle.lines.proofs.Laws.{has_none, has-minus, has-only}
use Rattle.lines.proofs.Algebra.{empty_from}
use Rattle.lines.specs.Sets.{Finds, Pops}
use Rattle.lines.specs.declared.line_set.Lines.{Lines}
use Rattle.std.specs.Prelude.{slice_get, IsSomeAnd, MatchOption, IsTrue}
use Rattle.std.specs.Iterator.{Yields}
use Rattle.std.specs.Iterator.Runs.{YieldsRun, SomeRun, AllItemsGive, IsFirstToGive}
use Rattle.std.specs.Fn.{Called}
use denote.Param.Members.{Mut}
use Rattle.pending_log.specs.Bytes.{Block}

-- a step over the lines of a set
abbrev pub popped : Lines → Option ℕ → Lines → Type 0
popped s r t = Pops s.rest.bits r t.rest.bits

-- each line of s is in a byte that is still to come
abbrev pub Ahead : ℕ → ℕ → Type 0
Ahead s rest = (n : ℕ) → has s n ≡ true → has rest (n / 8) ≡ true

-- at the end there is no line
pub search_all : (s rest : ℕ) → Ahead s rest → rest ≡ 0 → s ≡ 0
search_all s rest a e = empty_from s (λ n h. both_ways _ (ap (λ z. has z (n / 8)) e ∙ has_none (n / 8)) (a n h))

-- the lines b of byte i come next: those of the set s, of which the lines outside o are wanted
module _ (s o rest i b : ℕ) (k : Block s i b) (a : Ahead (minus s o) rest) where
  wanted : (n : ℕ) → has (minus b o) n ≡ (has (minus s o) n && eqb (n / 8) i)
  wanted n = let e = k n in simp has-minus (grind (arith, nat_tests))

  here : (n : ℕ) → has (minus s o) n ≡ true → n / 8 ≡ i → has (minus b o) n ≡ true
  here n h e = wanted n ∙ (rw (h, eq-eqb (n / 8) i e))

  -- none is wanted, and the search goes on
  pub search_more : minus b o ≡ 0 → Ahead (minus s o) (minus rest (only i))
  search_more z n h = elim (cases_eq (n / 8) i) [
    | inl e ↦ absurd (both_ways _ (ap (λ x. has x n) z ∙ has_none n) (here n h e))
    | inr d ↦ let p = a n h in simp (has-minus, has-only) (grind (arith, nat_tests))
  ]

  -- the lowest that is wanted is the lowest of all
  pub search_found : Lowest rest i → (n : ℕ) → Lowest (minus b o) n → Lowest (minus s o) n
  search_found r n w = record { one = let e = wanted n in let f = w.one in grind (arith, nat_tests); least = λ m h. below m h _ refl } where
    in_byte : n / 8 ≡ i
    in_byte = eqb-true (n / 8) i (let e = wanted n in let f = w.one in grind (arith, nat_tests))

    below : (m : ℕ) → m < n → (x : Bool) → has (minus s o) m ≡ x → has (minus s o) m ≡ false
    below m h false e = e
    below m h true e = elim (cases_lt (m / 8) i) [
      | inl l ↦ absurd (both_ways _ (r.least (m / 8) l) (a m e))
      | inr g ↦ absurd (both_ways _ (w.least m h) (here m e (let q = in_byte in omega arith)))
    ]

-- what a look at byte i finds: the lowest of the lines there of s that are not in o
abbrev pub Looks : ℕ → ℕ → ℕ → Option ℕ → Type 0
Looks s o i r = (b : ℕ) × Block s i b × Finds (minus b o) r

-- byte after byte of the iterator is looked at
module _ (s o : ℕ) where
  none_yet : (xs : List ℕ) (t u : Lines) → Yields popped t xs u → Ahead (minus s o) t.rest.bits → ((k : ℕ) → IfSome (slice_get xs k) (λ i. Looks s o i None))
      → Ahead (minus s o) u.rest.bits
  none_yet [] t u y a l = subst (λ z. Ahead (minus s o) z.rest.bits) y a
  none_yet (i ∷ xs) t u (j, p, y) a l =
      let b = l 0 in
      none_yet xs j u y (rw p.1 (search_more s o t.rest.bits i b.0 b.1 a b.2)) (λ k. l (suc k))

  found_at : (xs : List ℕ) (t u : Lines) (n k : ℕ) → Yields popped t xs u → Ahead (minus s o) t.rest.bits → length xs ≡ k + 1
      → IsSomeAnd (slice_get xs k) (λ i. Looks s o i (Some n)) → ((h : ℕ) → h < k → IsSomeAnd (slice_get xs h) (λ i. Looks s o i None))
      → Lowest (minus s o) n
  found_at [] t u n k y a e f l = absurd (omega arith)
  found_at (i ∷ xs) t u n zero (j, p, y) a e f l = search_found s o t.rest.bits i f.0 f.1 a p.0 n f.2
  found_at (i ∷ xs) t u n (suc k) (j, p, y) a e f l =
      let b = l 0 (omega arith) in
      found_at xs j u n k y (rw p.1 (search_more s o t.rest.bits i b.0 b.1 a b.2)) (omega arith) f (λ h m. l (suc h) (omega arith))

  module _ {F : Type 0} (g : Mut F (ℕ × Unit {0}) (Option ℕ)) (f : F) (looks : (i : ℕ) (r : Option ℕ) (q : F) → Called g f (i, tt) r q → (q ≡ f) × Looks s o i r) where
    keeps : (a : ℕ × Unit {0}) (r : Option ℕ) (q : F) → Called g f a r q → q ≡ f
    keeps a r q h = (looks a.0 r q h).0

    if_looked : (x : Option ℕ) → IfSome x (λ i. Called g f (i, tt) None f) → IfSome x (λ i. Looks s o i None)
    if_looked None h = h
    if_looked (Some i) h = (looks i None f h).1

    looked : (r x : Option ℕ) → IsSomeAnd x (λ i. Called g f (i, tt) r f) → IsSomeAnd x (λ i. Looks s o i r)
    looked r None h = absurd h
    looked r (Some i) h = (looks i r f h).1

    -- the first byte where the look finds a line tells it
    pub first_found : (t : Lines) (r : Option ℕ) → Ahead (minus s o) t.rest.bits
        → SomeRun popped t (λ p. MatchOption r (IsTrue p.whole × AllItemsGive p g f None) (λ n. (k : ℕ) × (k < p.len) × (p.len ≡ k + 1) × IsFirstToGive p g f (Some n) None k))
        → Finds (minus s o) r
    unfolding YieldsRun
    first_found t None a (p, e, (w, l)) =
        let y = p.gave.0 in
        search_all (minus s o) y.0.rest.bits
        (none_yet p.items p.from y.0 y.1 (subst (λ z. Ahead (minus s o) z.rest.bits) (sym e) a) (λ k. if_looked _ (rw (p.gave.1 k) at (l keeps k))))
        (y.2 w).1.0
    first_found t (Some n) a (p, e, (k, b, c, l)) =
        let y = p.gave.0 in
        let h = l keeps in
        found_at p.items p.from y.0 n k y.1 (subst (λ z. Ahead (minus s o) z.rest.bits) (sym e) a) (sym p.long ∙ c)
        (looked (Some n) _ (rw (p.gave.1 k) at h.0)) (λ j m. looked None _ (rw (p.gave.1 j) at (h.1 j m)))
