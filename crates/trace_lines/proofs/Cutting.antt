-- The whole lines of a text, and the one that has begun.
use Rattle.std.proofs.Common.{◌≡◌, ℕ, suc, ◌+◌, ◌-◌, ◌<◌, ◌≤◌, true, false, cond, not, eqb, ltb, List, [], ◌∷◌, ◌++◌, length, take, drop, sym, refl, ap, ◌∙◌, subst, ap₂, inl, inr, Some, None, add-one, one-add, arith, length-take}
use Rattle.std.specs.List.{position, position_or_len}
use Rattle.std.proofs.lemmas.Bool.{cases_Bool, ltb-true, ltb-false}
use Rattle.trace_lines.specs.Cut.{before_first, lines_of, onto_first, whole_lines, before_begun, begun, IsEnd, last_line, LinesAre, CutAnywhere, FirstWholeLine, NoWholeLine}
use Rattle.trace_lines.proofs.Options.{cond_some, cond_none}

-- ---- the lines are the whole ones and the one that has begun

before_last : (c : ℕ) (ls : List (List ℕ)) (u : List ℕ) → before_first c (ls ++ last_line u) ≡ onto_first c ls ++ last_line (before_begun c ls u)
before_last c [] [] = refl
before_last c [] (d ∷ u) = refl
before_last c (l ∷ ls) u = refl

pub lines_are : LinesAre
lines_are [] = refl
lines_are (c ∷ s) =
    elim (eqb c 10) as (λ t. cond t ([] ∷ lines_of s) (before_first c (lines_of s)) ≡ cond t ([] ∷ whole_lines s) (onto_first c (whole_lines s)) ++ last_line (cond t (begun s) (before_begun c (whole_lines s) (begun s)))) [
      | true ↦ ap (λ r. [] ∷ r) (lines_are s)
      | false ↦ ap (before_first c) (lines_are s) ∙ before_last c (whole_lines s) (begun s)
    ]

-- ---- a text cut anywhere

feed_lines : (c : ℕ) (s : List ℕ) → eqb c 10 ≡ true → whole_lines (c ∷ s) ≡ [] ∷ whole_lines s
feed_lines c s e = ap (λ t. cond t ([] ∷ whole_lines s) (onto_first c (whole_lines s))) e

feed_begun : (c : ℕ) (s : List ℕ) → eqb c 10 ≡ true → begun (c ∷ s) ≡ begun s
feed_begun c s e = ap (λ t. cond t (begun s) (before_begun c (whole_lines s) (begun s))) e

more_lines : (c : ℕ) (s : List ℕ) → eqb c 10 ≡ false → whole_lines (c ∷ s) ≡ onto_first c (whole_lines s)
more_lines c s e = ap (λ t. cond t ([] ∷ whole_lines s) (onto_first c (whole_lines s))) e

more_begun : (c : ℕ) (s : List ℕ) → eqb c 10 ≡ false → begun (c ∷ s) ≡ before_begun c (whole_lines s) (begun s)
more_begun c s e = ap (λ t. cond t (begun s) (before_begun c (whole_lines s) (begun s))) e

module _ (c : ℕ) (e : eqb c 10 ≡ false) (u t : List ℕ) where
  onto_cut : (ls : List (List ℕ)) → onto_first c (ls ++ whole_lines (u ++ t)) ≡ onto_first c ls ++ whole_lines (before_begun c ls u ++ t)
  onto_cut [] = sym (more_lines c (u ++ t) e)
  onto_cut (l ∷ ls) = refl

  begun_cut : (ls : List (List ℕ)) → before_begun c (ls ++ whole_lines (u ++ t)) (begun (u ++ t)) ≡ begun (before_begun c ls u ++ t)
  begun_cut [] = sym (more_begun c (u ++ t) e)
  begun_cut (l ∷ ls) = refl

pub cut_anywhere : CutAnywhere
cut_anywhere [] t = (refl, refl)
cut_anywhere (c ∷ s) t =
    let (p, q) = cut_anywhere s t in
    elim (cases_Bool (eqb c 10)) [
      | inl e ↦ (
        feed_lines c (s ++ t) e ∙ ap (λ r. [] ∷ r) p ∙ ap₂ (λ x y. x ++ whole_lines (y ++ t)) (sym (feed_lines c s e)) (sym (feed_begun c s e)),
        feed_begun c (s ++ t) e ∙ q ∙ ap (λ y. begun (y ++ t)) (sym (feed_begun c s e)),
      )
      | inr e ↦ (
        more_lines c (s ++ t) e ∙ ap (onto_first c) p ∙ onto_cut c e (begun s) t (whole_lines s)
            ∙ ap₂ (λ x y. x ++ whole_lines (y ++ t)) (sym (more_lines c s e)) (sym (more_begun c s e)),
        more_begun c (s ++ t) e ∙ ap₂ (before_begun c) p q ∙ begun_cut c e (begun s) t (whole_lines s) ∙ ap (λ y. begun (y ++ t)) (sym (more_begun c s e)),
      )
    ]

-- ---- texts without a line feed

onto_none : (c : ℕ) (ls : List (List ℕ)) → onto_first c ls ≡ [] → ls ≡ []
onto_none c [] e = refl
onto_none c (l ∷ ls) e = let z : ◌≡◌ {A = ℕ} 0 1 = cc in absurd (omega arith)

unended : (c : ℕ) (s : List ℕ) → whole_lines (c ∷ s) ≡ [] → (eqb c 10 ≡ false) × (whole_lines s ≡ [])
unended c s h =
    elim (cases_Bool (eqb c 10)) [
      | inl e ↦ let f = feed_lines c s e in let z : ◌≡◌ {A = ℕ} 0 1 = cc in absurd (omega arith)
      | inr e ↦ (e, onto_none c (whole_lines s) (sym (more_lines c s e) ∙ h))
    ]

pub unended_begun : (p : List ℕ) → whole_lines p ≡ [] → begun p ≡ p
unended_begun [] h = refl
unended_begun (c ∷ p) h = let (e, f) = unended c p h in more_begun c p e ∙ ap₂ (before_begun c) f (unended_begun p f)

-- what has begun is the end of the text
end_all : (s : List ℕ) → IsEnd s s
end_all s = let z : length s - length s ≡ 0 = omega arith in (omega arith, ap (λ n. drop n s) z)

end_more : (c : ℕ) (u s : List ℕ) → IsEnd u s → IsEnd u (c ∷ s)
end_more c u s (h, e) =
    let z : length (c ∷ s) - length u ≡ suc (length s - length u) = omega arith in (omega arith, ap (λ n. drop n (c ∷ s)) z ∙ e)

pub begun_end : (s : List ℕ) → IsEnd (begun s) s
begun_end [] = end_all []
begun_end (c ∷ s) =
    let i = begun_end s in
    elim (cases_Bool (eqb c 10)) [
      | inl e ↦ subst (λ u. IsEnd u (c ∷ s)) (sym (feed_begun c s e)) (end_more c (begun s) s i)
      | inr e ↦ subst (λ u. IsEnd u (c ∷ s)) (sym (more_begun c s e)) (still i (whole_lines s) refl)
    ]
  where
    still : IsEnd (begun s) s → (ls : List (List ℕ)) → whole_lines s ≡ ls → IsEnd (before_begun c ls (begun s)) (c ∷ s)
    still i [] h = subst (λ u. IsEnd (c ∷ u) (c ∷ s)) (sym (unended_begun s h)) (end_all (c ∷ s))
    still i (l ∷ ls) h = end_more c (begun s) s i

pub unended_more : (p s : List ℕ) → whole_lines p ≡ [] → whole_lines s ≡ [] → whole_lines (p ++ s) ≡ []
unended_more [] s h k = k
unended_more (c ∷ p) s h k = let (e, f) = unended c p h in more_lines c (p ++ s) e ∙ ap (onto_first c) (unended_more p s f k)

-- a line that has begun is ended by the first line of what comes after it
pub unended_first : (p s line rest : List ℕ) → whole_lines p ≡ [] → FirstWholeLine s line rest → (whole_lines (p ++ s) ≡ (p ++ line) ∷ whole_lines rest) × (begun (p ++ s) ≡ begun rest)
unended_first [] s line rest h k = (k.lines, k.begins)
unended_first (c ∷ p) s line rest h k =
    let (e, f) = unended c p h in
    let (x, y) = unended_first p s line rest f k in
    (more_lines c (p ++ s) e ∙ ap (onto_first c) x, more_begun c (p ++ s) e ∙ ap (λ z. before_begun c z (begun (p ++ s))) x ∙ y)

pub begun_unended : (s : List ℕ) → whole_lines (begun s) ≡ []
begun_unended [] = refl
begun_unended (c ∷ s) =
    elim (cases_Bool (eqb c 10)) [
      | inl e ↦ ap whole_lines (feed_begun c s e) ∙ begun_unended s
      | inr e ↦ ap whole_lines (more_begun c s e) ∙ still c e (whole_lines s) (begun s) (begun_unended s)
    ]
  where
    still : (c : ℕ) → eqb c 10 ≡ false → (ls : List (List ℕ)) (u : List ℕ) → whole_lines u ≡ [] → whole_lines (before_begun c ls u) ≡ []
    still c e [] u h = more_lines c u e ∙ ap (onto_first c) h
    still c e (l ∷ ls) u h = h

-- ---- the first whole line

-- how many bytes stand before the first line feed, or in all
abbrev line_length : List ℕ → ℕ
line_length s = position_or_len (λ c. eqb c 10) s

none_within : (s : List ℕ) → length s ≤ line_length s → (whole_lines s ≡ []) × (begun s ≡ s)
none_within [] h = (refl, refl)
none_within (c ∷ s) h =
    elim (cases_Bool (eqb c 10)) [
      | inl e ↦ absurd (omega (arith, h, ap (λ t. cond (not t) (1 + line_length s) 0) e))
      | inr e ↦
          let (p, q) = none_within s (omega (arith, h, ap (λ t. cond (not t) (1 + line_length s) 0) e)) in
          (more_lines c s e ∙ ap (onto_first c) p, more_begun c s e ∙ ap₂ (before_begun c) p q)
    ]

pub no_whole_line : (s : List ℕ) → position (λ c. eqb c 10) s ≡ None → NoWholeLine s
no_whole_line s e =
    let (p, q) = none_within s (ltb-false (line_length s) (length s) (cond_none _ (line_length s) e)) in record { lines = p; begins = q }

abbrev CutAt : List ℕ → ℕ → Type 0
CutAt s n = (whole_lines s ≡ take n s ∷ whole_lines (drop (n + 1) s)) × (begun s ≡ begun (drop (n + 1) s))

first_whole : (s : List ℕ) → line_length s < length s → CutAt s (line_length s)
first_whole [] h = absurd (omega arith)
first_whole (c ∷ s) h =
    elim (cases_Bool (eqb c 10)) [
      | inl e ↦ subst (CutAt (c ∷ s)) (sym (ap (λ t. cond (not t) (1 + line_length s) 0) e)) (feed_lines c s e, feed_begun c s e)
      | inr e ↦
          let n = line_length s in
          let (p, q) = first_whole s (omega (arith, h, ap (λ t. cond (not t) (1 + line_length s) 0) e)) in
          subst (CutAt (c ∷ s)) (sym (ap (λ t. cond (not t) (1 + line_length s) 0) e))
          (more_lines c s e ∙ ap (onto_first c) p ∙ simp (one-add, add-one), more_begun c s e ∙ ap₂ (before_begun c) p q ∙ simp (one-add, add-one))
    ]

pub first_whole_cut : (s line rest : List ℕ) (n : ℕ) → position (λ c. eqb c 10) s ≡ Some n → line ≡ take n s → rest ≡ drop (n + 1) s → FirstWholeLine s line rest
first_whole_cut s line rest n f p q =
    let g = cond_some (ltb (line_length s) (length s)) (Some (line_length s)) n f in
    let e : line_length s ≡ n = cc g.1 in
    let h : n < length s = subst (λ n. n < length s) e (ltb-true (line_length s) (length s) g.0) in
    let (x, y) = subst (CutAt s) e (first_whole s (omega (arith, h, e))) in
    let l : length line ≡ n = ap length p ∙ simp length-take (omega arith) in
    record {
      lines = x ∙ ap₂ (λ a b. a ∷ whole_lines b) (sym p) (sym q);
      begins = y ∙ ap begun (sym q);
      after = q ∙ ap (λ k. drop (k + 1) s) (sym l);
      within = omega arith;
    }
