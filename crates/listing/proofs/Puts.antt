-- Words put into a buffer one after another.
use Rattle.std.proofs.Common.{◌≡◌, ℕ, ◌+◌, ◌-◌, ◌/◌, ◌%◌, ◌^◌, ◌<◌, ◌≤◌, true, false, cond, eqb, leb, List, [], ◌∷◌, ◌++◌, map, length, drop, set, sym, ap, ap₂, ◌∙◌, subst, ⊎_elim, mod-eq_of_lt, arith, length-append, length-drop, length-take, rules, ne_eqb}
use native.Mathlib.Nat.{div-eq_of_lt}
use borrow.Rule.Slice.PartMut.{put_mid}
use Rattle.std.proofs.lemmas.List.{same_lists, places, get_or-set_same, map-append, length-map}
use Rattle.std.specs.Int.Digits.{digits_of}
use Rattle.std.proofs.lemmas.Nat.{le-div}
use Rattle.std.proofs.lemmas.Int.Digits.{digits_of_step, length-digits_of-le}
use Rattle.std.proofs.lemmas.Bool.{cases_eq, cond_both, leb-true}
use Rattle.listing.specs.declared.cursor.Cursor.{Cursor}
use Rattle.listing.specs.Cursors.{put_at, Puts}
use Rattle.listing.specs.Numbers.{digit_letter, written}

length-put : (xs : List ℕ) (i : ℕ) (ws : List ℕ) → i + length ws ≤ length xs → length (put_at xs i ws) ≡ length xs
unfolding put_at
length-put xs i ws h = simp (length-append, length-take, length-drop) (omega arith)

pub put_none : (xs : List ℕ) (i : ℕ) → i ≤ length xs → put_at xs i [] ≡ xs
unfolding put_at
put_none xs i h = same_lists _ _ (search (rules, places)) (λ k d l. grind (arith, places))

pub put_byte : (xs : List ℕ) (i b : ℕ) → i < length xs → set xs i b ≡ put_at xs i (b ∷ [])
unfolding put_at
put_byte xs i b h = same_lists _ _ (search (rules, places)) (λ k d l. grind (arith, places, get_or-set_same, cases_eq k i))

pub put_part : (xs : List ℕ) (i : ℕ) (ws : List ℕ) → i + length ws ≤ length xs → put_mid i (i + length ws - i) xs ws ≡ put_at xs i ws
unfolding put_at
put_part xs i ws h = same_lists _ _ (search (rules, places)) (λ k d l. grind (arith, places))

put-put : (xs : List ℕ) (i : ℕ) (ws vs : List ℕ) → i + length ws ≤ length xs → put_at (put_at xs i ws) (i + length ws) vs ≡ put_at xs i (ws ++ vs)
unfolding put_at
put-put xs i ws vs h = same_lists _ _ (search (rules, places)) (λ k d l. grind (arith, places))

put_front : (xs : List ℕ) (ws : List ℕ) → put_at xs 0 ws ≡ ws ++ drop (length ws) xs
unfolding put_at
put_front xs ws = same_lists _ _ (search (rules, places)) (λ k d l. grind (arith, places))

-- ---- numbers

abbrev letters : ℕ → ℕ → List ℕ
letters b n = map digit_letter (digits_of b n)

written_letters : (b n : ℕ) → 0 < n → written b n ≡ letters b n
unfolding written
written_letters b n h = ap (λ t. cond t (48 ∷ []) (letters b n)) (ne_eqb n 0 (λ e. omega arith))

letters_more : (b n : ℕ) → 2 ≤ b → 0 < n → letters b n ≡ letters b (n / b) ++ (digit_letter (n % b) ∷ [])
letters_more b n h k = ap (map digit_letter) (digits_of_step b n h k) ∙ map-append digit_letter (digits_of b (n / b)) (n % b ∷ [])

-- a number below the base is one digit
pub written_one : (b n : ℕ) → 2 ≤ b → n < b → written b n ≡ digit_letter n ∷ []
unfolding written
written_one b n h k =
    ⊎_elim (λ e. ap (λ m. cond (eqb m 0) (48 ∷ []) (letters b m)) e ∙ ap (λ m. digit_letter m ∷ []) (sym e))
    (λ ne. let p : 0 < n = omega (arith, ne) in
    ap (λ t. cond t (48 ∷ []) (letters b n)) (ne_eqb n 0 ne)
    ∙ letters_more b n h p
    ∙ ap (λ m. letters b m ++ (digit_letter (n % b) ∷ [])) (div-eq_of_lt k)
    ∙ ap (λ m. digit_letter m ∷ []) (mod-eq_of_lt k))
    (cases_eq n 0)

-- any other has a digit more than its quotient by the base
pub written_more : (b n : ℕ) → 2 ≤ b → b ≤ n → written b n ≡ written b (n / b) ++ (digit_letter (n % b) ∷ [])
written_more b n h k =
    let p : 0 < n = omega arith in
    let q : 1 ≤ n / b = le-div 1 n b (omega arith) (omega arith) in
    written_letters b n p ∙ letters_more b n h p ∙ ap (λ t. t ++ (digit_letter (n % b) ∷ [])) (sym (written_letters b (n / b) q))

pub length_more : (b n : ℕ) → 2 ≤ b → b ≤ n → length (written b n) ≡ length (written b (n / b)) + 1
length_more b n h k = ap length (written_more b n h k) ∙ simp length-append

length_written_le : (b k n : ℕ) → 2 ≤ b → 0 < k → n < b ^ k → length (written b n) ≤ k
unfolding written
length_written_le b k n h o l =
    elim (eqb n 0) as (λ t. length (cond t (48 ∷ []) (letters b n)) ≤ k) [ true ↦ o | false ↦ rw length-map (length-digits_of-le b k n h l) ]

pub length-decimal : (n : ℕ) → n < 2 ^ 8 → length (written 10 n) ≤ 3
length-decimal n h = length_written_le 10 3 n (omega arith) (omega arith) (omega arith)

length_short : (n : ℕ) → n ≤ 99 → length (written 10 n) ≤ 2
length_short n h = length_written_le 10 2 n (omega arith) (omega arith) (omega arith)

pub length-set : (n : ℕ) → n < 2 ^ 64 → length (written 16 n) ≤ 16
length-set n h = length_written_le 16 16 n (omega arith) (omega arith) h

-- a count of three digits has one byte more
pub room_for : (n : ℕ) → n < 2 ^ 8 → length (written 10 n) + 17 < cond (leb n 99) 20 21
room_for n h =
    cond_both (leb n 99) 20 21 (λ k. length (written 10 n) + 17 < k)
    (λ t. omega (arith, length_short n (leb-true n 99 t)))
    (λ t. omega (arith, length-decimal n h))

-- ---- cursors

-- words put at a cursor
pub puts_at : (s t : Cursor) (ws : List ℕ) → s.at + length ws ≤ length s.out.now → t.at ≡ s.at + length ws → t.out.now ≡ put_at s.out.now s.at ws
    → t.out.ghost_name ≡ s.out.ghost_name → Puts s ws t
puts_at s t ws h a b g = record { fits = h; at = a; bytes = b; size = ap length b ∙ length-put s.out.now s.at ws h; lent = g }

pub puts_same : {s t : Cursor} {ws vs : List ℕ} → Puts s ws t → ws ≡ vs → Puts s vs t
puts_same {s} {t} p e = subst (λ ws. Puts s ws t) e p

-- one after another
pub puts_then : {s t u : Cursor} {ws vs : List ℕ} → Puts s ws t → Puts t vs u → Puts s (ws ++ vs) u
puts_then {s} {t} {u} {ws} {vs} p q =
    let l : length (ws ++ vs) ≡ length ws + length vs = length-append ws vs in
    record {
      fits = omega (arith, l, p.at, p.size, q.fits);
      at = omega (arith, l, p.at, q.at);
      bytes = q.bytes ∙ ap (λ x. put_at x t.at vs) p.bytes ∙ ap (λ i. put_at (put_at s.out.now s.at ws) i vs) p.at ∙ put-put s.out.now s.at ws vs p.fits;
      size = q.size ∙ p.size;
      lent = q.lent ∙ p.lent;
    }

-- from the start of the buffer on
pub puts_front : {s t : Cursor} {ws : List ℕ} {n : ℕ} {xs ys : List ℕ} → Puts s ws t → s.at ≡ 0 → s.out.now ≡ xs → n ≡ t.at → ys ≡ t.out.now → ys ≡ ws ++ drop n xs
puts_front {s} {t} {ws} {n} {xs} p z x m y =
    let e : length ws ≡ n = omega (arith, p.at) in
    y ∙ p.bytes ∙ ap₂ (λ x i. put_at x i ws) x z ∙ put_front xs ws ∙ ap (λ n. ws ++ drop n xs) e
