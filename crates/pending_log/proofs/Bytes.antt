-- Eight bytes as one set of lines.
use Rattle.std.proofs.Common.{◌≡◌, ℕ, suc, ◌+◌, ◌-◌, ◌*◌, ◌/◌, ◌%◌, ◌^◌, ◌<◌, ◌≤◌, Bool, true, false, cond, not, ◌&&◌, eqb, ◌≢◌, List, [], ◌∷◌, length, get_or, drop, set, sym, refl, ap, ◌∙◌, subst, inl, inr, pow-suc, arith, length-drop, drop-cons, get_or-set_other, get_or-set_same}
use Rattle.std.proofs.lemmas.List.{get_or-replicate, get_or_past}
use lib.Count.{count_trailing_zeros}
use Rattle.std.proofs.lemmas.Nat.{pow_pos, shl_whole}
use Rattle.std.proofs.lemmas.Bool.{both_ways, cases_lt, cases_eq, ne_eqb, eq-eqb, lt-ltb}
use Rattle.std.proofs.lemmas.Bool.Decides.{nat_tests}
use Rattle.lines.specs.Sets.{has, union, minus, only}
use Rattle.lines.proofs.Laws.{has_none, has_small, not_has, has-union, has-minus, has-only, ext}
use Rattle.lines.proofs.Blocks.{block_low, block_high}
use Rattle.lines.proofs.Lowest.{lowest_at}
use Rattle.pending_log.specs.Bytes.{flat, Upper, UpperOf, Block, upper_written}

abbrev pub Fits : List ℕ → Type 0
Fits bs = (i : ℕ) → get_or bs i 0 < 256

-- line n is bit n % 8 of byte n / 8
pub flat_at : (bs : List ℕ) → Fits bs → (n : ℕ) → has (flat bs) n ≡ has (get_or bs (n / 8) 0) (n % 8)
unfolding flat
flat_at [] s n = has_none n ∙ sym (has_none (n % 8))
flat_at (b ∷ bs) s n = elim (cases_lt n 8) [
  | inl l ↦
      let q : n / 8 ≡ 0 = omega arith in
      let r : n % 8 ≡ n = omega arith in
      block_low 8 (flat bs) b n l ∙ sym (rw (q, r))
  | inr g ↦
      let e : 8 + (n - 8) ≡ n = omega arith in
      let q : n / 8 ≡ suc ((n - 8) / 8) = omega arith in
      let r : n % 8 ≡ (n - 8) % 8 = omega arith in
      subst (λ m. has (flat bs * 256 + b) m ≡ has (flat bs) (n - 8)) e (block_high 8 (flat bs) b (n - 8) (s 0))
      ∙ flat_at bs (λ i. s (suc i)) (n - 8) ∙ sym (rw (q, r))
]

-- a byte is written
module _ (bs : List ℕ) (i x : ℕ) (l : length bs ≡ 8) (h : i < 8) where
  at_same : get_or (set bs i x) i 0 ≡ x
  at_same = let p : i < length bs = omega arith in rw get_or-set_same

  at_other : (k : ℕ) → (k ≡ i → ⊥) → get_or (set bs i x) k 0 ≡ get_or bs k 0
  at_other k d = let n : k ≢ i = d in rw get_or-set_other

  pub fits_written : Fits bs → x < 256 → Fits (set bs i x)
  fits_written s f k = elim (cases_eq k i) [ inl e ↦ rw (e, at_same) f | inr d ↦ rw (at_other k d) (s k) ]

  -- bit i of the upper byte follows byte i, and the others stay
  bits_written : (u : ℕ) (z : Bool) (k : ℕ) → has (cond z (minus u (only i)) (union u (only i))) k ≡ cond (eqb k i) (not z) (has u k)
  bits_written u true k = simp (has-minus, has-only) (grind (arith, nat_tests))
  bits_written u false k = simp (has-union, has-only) (grind (arith, nat_tests))

  pub upper_follows : (u : ℕ) → Upper bs u → Upper (set bs i x) (upper_written u i x)
  upper_follows u t k b =
      rw (lt-ltb i 8 h) (bits_written u (eqb x 0) k ∙ elim (cases_eq k i) [
        | inl e ↦ rw (eq-eqb k i e, e, at_same)
        | inr d ↦ rw (ne_eqb k i d, at_other k d) (t k b)
      ])

-- a line is put in or taken out
module _ (bs : List ℕ) (n x : ℕ) (l : length bs ≡ 8) (h : n < 64) (s : Fits bs) (f : x < 256) where
  set_at : (m : ℕ) → (m / 8 ≡ n / 8 → ⊥) → has (flat (set bs (n / 8) x)) m ≡ has (flat bs) m
  set_at m d =
      flat_at (set bs (n / 8) x) (fits_written bs (n / 8) x l (omega arith) s f) m
      ∙ ap (λ y. has y (m % 8)) (at_other bs (n / 8) x l (omega arith) (m / 8) d) ∙ sym (flat_at bs s m)

  set_there : (m : ℕ) → m / 8 ≡ n / 8 → has (flat (set bs (n / 8) x)) m ≡ has x (m % 8)
  set_there m e =
      flat_at (set bs (n / 8) x) (fits_written bs (n / 8) x l (omega arith) s f) m
      ∙ ap (λ y. has y (m % 8)) (ap (λ k. get_or (set bs (n / 8) x) k 0) e ∙ at_same bs (n / 8) x l (omega arith))

  was_there : (m : ℕ) → m / 8 ≡ n / 8 → has (flat bs) m ≡ has (get_or bs (n / 8) 0) (m % 8)
  was_there m e = flat_at bs s m ∙ ap (λ k. has (get_or bs k 0) (m % 8)) e

  pub flat_with : x ≡ union (get_or bs (n / 8) 0) (only (n % 8)) → flat (set bs (n / 8) x) ≡ union (flat bs) (only n)
  flat_with e = ext _ _ (λ m. elim (cases_eq (m / 8) (n / 8)) [
    | inl q ↦ let a = set_there m q in let b = was_there m q in let c = ap (λ y. has y (m % 8)) e in
        simp (has-union, has-only) (let d = (simp (has-union, has-only) at c) in grind (arith, nat_tests))
    | inr d ↦ let a = set_at m d in simp (has-union, has-only) (grind (arith, nat_tests))
  ])

  pub flat_without : x ≡ minus (get_or bs (n / 8) 0) (only (n % 8)) → flat (set bs (n / 8) x) ≡ minus (flat bs) (only n)
  flat_without e = ext _ _ (λ m. elim (cases_eq (m / 8) (n / 8)) [
    | inl q ↦ let a = set_there m q in let b = was_there m q in let c = ap (λ y. has y (m % 8)) e in
        simp (has-minus, has-only) (let d = (simp (has-minus, has-only) at c) in grind (arith, nat_tests))
    | inr d ↦ let a = set_at m d in simp (has-minus, has-only) (grind (arith, nat_tests))
  ])

-- byte after byte
flat_bound : (bs : List ℕ) → Fits bs → flat bs < 256 ^ length bs
unfolding flat
flat_bound [] s = omega arith
flat_bound (b ∷ bs) s = let i = flat_bound bs (λ k. s (suc k)) in let z = s 0 in let p = pow-suc 256 (length bs) in omega arith

flat_drop : (bs : List ℕ) (i : ℕ) → i < length bs → flat (drop i bs) ≡ flat (drop (suc i) bs) * 256 + get_or bs i 0
unfolding flat
flat_drop bs i h = rw (drop-cons bs i 0 h)

flat_end : (bs : List ℕ) → length bs ≡ 0 → flat bs ≡ 0
unfolding flat
flat_end [] e = refl
flat_end (b ∷ bs) e = absurd (omega arith)

module _ (bs : List ℕ) (l : length bs ≡ 8) where
  at : (i : ℕ) → i < 8 → flat (drop i bs) ≡ flat (drop (suc i) bs) * 256 + get_or bs i 0
  at i h = flat_drop bs i (omega arith)

  -- the bytes as the digits of a number, the first the least
  pub flat_sum : get_or bs 0 0 + get_or bs 1 0 * 256 + get_or bs 2 0 * 65536 + get_or bs 3 0 * 16777216 + get_or bs 4 0 * 4294967296 + get_or bs 5 0 * 1099511627776 + get_or bs 6 0 * 281474976710656 + get_or bs 7 0 * 72057594037927936 ≡ flat bs
  flat_sum =
      let e : flat (drop 8 bs) ≡ 0 = flat_end (drop 8 bs) (length-drop 8 bs ∙ (rw l)) in
      omega (arith, at 0 (omega arith), at 1 (omega arith), at 2 (omega arith), at 3 (omega arith), at 4 (omega arith), at 5 (omega arith), at 6 (omega arith), at 7 (omega arith))

  module _ (s : Fits bs) where
    pub flat_small : flat bs < 2 ^ 64
    flat_small = subst (λ k. flat bs < 256 ^ k) l (flat_bound bs s)

    -- a line of the set stands in one of the eight bytes, which is not zero
    byte_of : (n : ℕ) → has (flat bs) n ≡ true → (n / 8 < 8) × (eqb (get_or bs (n / 8) 0) 0 ≡ false)
    byte_of n h =
        let b : n < 64 = has_small 64 (flat bs) n flat_small h in
        (omega arith, ne_eqb _ 0 (λ z. both_ways _ (flat_at bs s n ∙ ap (λ x. has x (n % 8)) z ∙ has_none (n % 8)) h))

    -- byte i at its place
    byte_lines : (i n : ℕ) → i < 8 → has (get_or bs i 0 * 2 ^ (8 * i)) n ≡ (has (flat bs) n && eqb (n / 8) i)
    byte_lines i n h = elim (cases_lt n (8 * i)) [
      | inl a ↦ low a ∙ sym (rw (ne_eqb (n / 8) i (λ e. omega arith)) (and_false (has (flat bs) n)))
      | inr a ↦ high a ∙ elim (cases_lt (n - 8 * i) 8) [
        | inl b ↦
            let q : n / 8 ≡ i = omega arith in
            let r : n - 8 * i ≡ n % 8 = omega arith in
            rw (flat_at bs s n, q, r, eq-eqb i i refl) (sym (and_true _))
        | inr b ↦ not_has 8 (get_or bs i 0) (n - 8 * i) (s i) b ∙ sym (rw (ne_eqb (n / 8) i (λ e. omega arith)) (and_false (has (flat bs) n)))
      ]
    ] where
      and_false : (x : Bool) → (x && false) ≡ false
      and_false x = grind (arith, nat_tests)

      and_true : (x : Bool) → (x && true) ≡ x
      and_true x = grind (arith, nat_tests)

      low : n < 8 * i → has (get_or bs i 0 * 2 ^ (8 * i)) n ≡ false
      low a = ap (λ z. has z n) (omega arith) ∙ block_low (8 * i) (get_or bs i 0) 0 n a ∙ has_none n

      high : 8 * i ≤ n → has (get_or bs i 0 * 2 ^ (8 * i)) n ≡ has (get_or bs i 0) (n - 8 * i)
      high a =
          let e : 8 * i + (n - 8 * i) ≡ n = omega arith in
          subst (λ m. has (get_or bs i 0 * 2 ^ (8 * i)) m ≡ has (get_or bs i 0) (n - 8 * i)) e
          (ap (λ z. has z (8 * i + (n - 8 * i))) (omega arith) ∙ block_high (8 * i) (get_or bs i 0) 0 (n - 8 * i) (pow_pos (8 * i)))

    pub byte_block : (i : ℕ) → i < 8 → Block (flat bs) i (get_or bs i 0 * 2 ^ (8 * i) % 2 ^ 64)
    byte_block i h n = rw (shl_whole (get_or bs i 0) 8 (8 * i) 64 (s i) (omega arith)) (byte_lines i n h)

    -- there are eight bytes
    pub no_block : (i : ℕ) → 8 ≤ i → Block (flat bs) i 0
    no_block i g n = has_none n ∙ sym (none (has (flat bs) n) refl) where
      none : (x : Bool) → has (flat bs) n ≡ x → (has (flat bs) n && eqb (n / 8) i) ≡ false
      none true e = let b = (byte_of n e).0 in rw (e, ne_eqb (n / 8) i (λ q. omega arith))
      none false e = rw e

    module _ (u : ℕ) (t : Upper bs u) where
      -- the upper byte has the byte of each line
      pub upper_has : (n : ℕ) → has (flat bs) n ≡ true → has u (n / 8) ≡ true
      upper_has n h = let b = byte_of n h in t (n / 8) b.0 ∙ ap not b.1

      some_bit : (i : ℕ) → i < 8 → has u i ≡ true → (n : ℕ) × (n / 8 ≡ i) × (has (flat bs) n ≡ true)
      some_bit i b h =
          let z : get_or bs i 0 ≡ 0 → ⊥ = λ e. both_ways _ (t i b ∙ ap not (eq-eqb _ 0 e)) h in
          let p = lowest_at 8 (get_or bs i 0) (s i) z in
          let j = count_trailing_zeros 8 (get_or bs i 0) in
          let q : (8 * i + j) / 8 ≡ i = omega (arith, p.0) in
          let r : (8 * i + j) % 8 ≡ j = omega (arith, p.0) in
          (8 * i + j, q, flat_at bs s (8 * i + j) ∙ (rw (q, r) p.1.one))

      pub upper_of : u < 256 → UpperOf (flat bs) u
      upper_of b i = (λ h. some_bit i (has_small 8 u i b h) h, λ p. subst (λ k. has u k ≡ true) p.1 (upper_has p.0 p.2))

pub zeros : (i : ℕ) → ◌≡◌ {A = ℕ} (get_or (0 ∷ 0 ∷ 0 ∷ 0 ∷ 0 ∷ 0 ∷ 0 ∷ 0 ∷ []) i 0) 0
zeros i = elim (cases_lt i 8) [ inl l ↦ get_or-replicate 8 i 0 0 l | inr g ↦ get_or_past (0 ∷ 0 ∷ 0 ∷ 0 ∷ 0 ∷ 0 ∷ 0 ∷ 0 ∷ []) i 0 g ]
