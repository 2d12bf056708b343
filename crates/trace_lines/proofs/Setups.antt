-- The form found of a line before the start is the one that the grammar gives it.
use Rattle.std.proofs.Common.{◌≡◌, ℕ, suc, ◌+◌, ◌-◌, ◌≤◌, true, false, cond, ◌&&◌, eqb, leb, List, [], ◌∷◌, ◌++◌, length, get_or, take, Some, None, Ok, Err, Result, sym, refl, ap, ◌∙◌, subst, ⊎_elim, arith, length-append, drop-cons}
use Rattle.std.proofs.lemmas.List.{take_all, drop_all, take-append-drop, take-append-le, get_or-append_right}
use Rattle.std.proofs.lemmas.Bool.{le-leb, leb-true, and_parts, eqb-true}
use Rattle.std.proofs.lemmas.Bool.Decides.{nat_tests}
use Rattle.std.proofs.lemmas.Option.{none-some}
use Rattle.trace_lines.specs.declared.commands.TextFault.{TextFault}
use Rattle.trace_lines.specs.declared.commands.TextFault.TheVariants.{Form, Range}
use Rattle.trace_lines.specs.Numerals.{numeral, number_after}
use Rattle.trace_lines.specs.Grammar.{Number, Digit, SetupForm, route, start, SetupLine, setup_in_range, SetupSays, Reads, ReadsSetup}
use Rattle.trace_lines.specs.Forms.{ranged, both, route_form, setup_form, setup_of, said}
use Rattle.trace_lines.proofs.Options.{cond_some, cond_pick, both_some}
use Rattle.trace_lines.proofs.Written.{reads_ranged}

-- ---- L and F

module _ (l : List ℕ) (d : ℕ) where
  long : length (l ++ (32 ∷ d ∷ [])) ≡ length l + 2
  long = length-append l (32 ∷ d ∷ [])

  at_blank : get_or (l ++ (32 ∷ d ∷ [])) (length (l ++ (32 ∷ d ∷ [])) - 2) 0 ≡ 32
  at_blank =
      let e : length (l ++ (32 ∷ d ∷ [])) - 2 - length l ≡ 0 = omega (arith, long) in
      get_or-append_right l (32 ∷ d ∷ []) (length l) _ 0 refl (omega (arith, long)) ∙ ap (λ k. get_or (32 ∷ d ∷ []) k 0) e

  at_end : get_or (l ++ (32 ∷ d ∷ [])) (length (l ++ (32 ∷ d ∷ [])) - 1) 0 ≡ d
  at_end =
      let e : length (l ++ (32 ∷ d ∷ [])) - 1 - length l ≡ 1 = omega (arith, long) in
      get_or-append_right l (32 ∷ d ∷ []) (length l) _ 0 refl (omega (arith, long)) ∙ ap (λ k. get_or (32 ∷ d ∷ []) k 0) e

  before_blank : take (length (l ++ (32 ∷ d ∷ [])) - 2) (l ++ (32 ∷ d ∷ [])) ≡ l
  before_blank =
      let e : length (l ++ (32 ∷ d ∷ [])) - 2 ≡ length l = omega (arith, long) in
      ap (λ k. take k (l ++ (32 ∷ d ∷ []))) e ∙ take-append-le (length l) l (32 ∷ d ∷ []) (omega arith) ∙ take_all (length l) l (omega arith)

  route_there : (n f : ℕ) → Number l n → Digit (d ∷ []) f → route_form (l ++ (32 ∷ d ∷ [])) ≡ Some (route n f)
  route_there n f p q =
      let s = l ++ (32 ∷ d ∷ []) in
      let a : leb 2 (length s) ≡ true = le-leb 2 (length s) (omega (arith, long)) in
      let rest = both route (numeral 10 3 (take (length s - 2) s)) (numeral 10 1 (get_or s (length s - 1) 0 ∷ [])) in
      ap (λ t. cond (t && eqb (get_or s (length s - 2) 0) 32) rest None) a
      ∙ ap (λ b. cond (eqb b 32) rest None) at_blank
      ∙ ap (λ t. both route (numeral 10 3 t) (numeral 10 1 (get_or s (length s - 1) 0 ∷ []))) before_blank
      ∙ ap (λ b. both route (numeral 10 3 l) (numeral 10 1 (b ∷ []))) at_end
      ∙ ap (λ o. both route o (numeral 10 1 (d ∷ []))) p
      ∙ ap (both route (Some n)) q

parted : (s : List ℕ) → 2 ≤ length s → get_or s (length s - 2) 0 ≡ 32 → s ≡ take (length s - 2) s ++ (32 ∷ get_or s (length s - 1) 0 ∷ [])
parted s h e =
    let i = length s - 2 in
    let k : suc i ≡ length s - 1 = omega arith in
    sym (take-append-drop i s)
    ∙ ap (λ t. take i s ++ t) (drop-cons s i 0 (omega arith))
    ∙ ap (λ t. take i s ++ (get_or s i 0 ∷ t)) (drop-cons s (suc i) 0 (omega arith))
    ∙ ap (λ t. take i s ++ (get_or s i 0 ∷ get_or s (suc i) 0 ∷ t)) (drop_all (suc (suc i)) s (omega arith))
    ∙ ap (λ b. take i s ++ (b ∷ get_or s (suc i) 0 ∷ [])) e
    ∙ ap (λ k. take i s ++ (32 ∷ get_or s k 0 ∷ [])) k

route_back : (s : List ℕ) (f : SetupForm) → route_form s ≡ Some f → SetupLine (97 ∷ 32 ∷ s) f
route_back s f e =
    let p = cond_some (leb 2 (length s) && eqb (get_or s (length s - 2) 0) 32) _ f e in
    let t = and_parts (leb 2 (length s)) (eqb (get_or s (length s - 2) 0) 32) p.0 in
    let q = both_some route (numeral 10 3 (take (length s - 2) s)) (numeral 10 1 (get_or s (length s - 1) 0 ∷ [])) f p.1 in
    subst (SetupLine (97 ∷ 32 ∷ s)) q.4 (
      take (length s - 2) s,
      get_or s (length s - 1) 0 ∷ [],
      q.2,
      q.3,
      ap (λ t. 97 ∷ 32 ∷ t) (parted s (leb-true 2 (length s) t.0) (eqb-true (get_or s (length s - 2) 0) 32 t.1)),
    )

-- ---- the letters

setup_route : (s : List ℕ) → setup_form (97 ∷ 32 ∷ s) ≡ route_form s
setup_route s =
    ap (λ t. cond (t && true) (route_form (take (length (97 ∷ 32 ∷ s) - 2) s)) (cond (eqb (length (97 ∷ 32 ∷ s)) 1 && false) (Some start) None)) (le-leb 2 (length (97 ∷ 32 ∷ s)) (omega arith))
    ∙ ap route_form (take_all (length (97 ∷ 32 ∷ s) - 2) s (omega arith))

routed : (l t : List ℕ) (n f : ℕ) → Number l n → Digit t f → route_form (l ++ (32 ∷ t)) ≡ Some (route n f)
routed l [] n f p q = absurd (none-some f q)
routed l (d ∷ []) n f p q = route_there l d n f p q
routed l (d ∷ c ∷ t) n f p q =
    let h = cond_some _ (number_after 10 0 (d ∷ c ∷ t)) f q in absurd (omega (arith, leb-true (length (d ∷ c ∷ t)) 1 (and_parts _ _ h.0).1))

pub setup_there : (s : List ℕ) (f : SetupForm) → SetupLine s f → setup_form s ≡ Some f
setup_there s (route n f) w =
    ap setup_form w.4 ∙ setup_route (w.0 ++ (32 ∷ w.1)) ∙ routed w.0 w.1 n f w.2 w.3
setup_there s start w = ap setup_form w

start_back : (s : List ℕ) (f : SetupForm) → cond (eqb (length s) 1 && eqb (get_or s 0 0) 98) (Some start) None ≡ Some f → SetupLine s f
start_back [] f e = absurd (none-some f e)
start_back (c ∷ []) f e =
    let p = cond_some (eqb c 98) (Some start) f e in
    let q : start ≡ f = cc p.1 in
    subst (SetupLine (c ∷ [])) q (ap (λ c. c ∷ []) (eqb-true c 98 p.0))
start_back (c ∷ d ∷ s) f e =
    let p = cond_some (eqb (length (c ∷ d ∷ s)) 1 && eqb c 98) (Some start) f e in
    absurd (omega (arith, eqb-true (length (c ∷ d ∷ s)) 1 (and_parts _ (eqb c 98) p.0).0))

pub setup_back : (s : List ℕ) (f : SetupForm) → setup_form s ≡ Some f → SetupLine s f
setup_back [] f e = start_back [] f e
setup_back (c ∷ []) f e = start_back (c ∷ []) f e
setup_back (c ∷ b ∷ s) f e =
    let long = leb 2 (length (c ∷ b ∷ s)) in
    let rest = take (length (c ∷ b ∷ s) - 2) s in
    let same : rest ≡ s = take_all (length (c ∷ b ∷ s) - 2) s (omega arith) in
    ⊎_elim
    (λ p. let t = and_parts (eqb c 97) (eqb b 32) (and_parts long (eqb c 97 && eqb b 32) p.0).1 in
    subst (λ c. SetupLine (c ∷ b ∷ s) f) (sym (eqb-true c 97 t.0))
    (subst (λ b. SetupLine (97 ∷ b ∷ s) f) (sym (eqb-true b 32 t.1)) (route_back s f (ap route_form (sym same) ∙ p.1))))
    (start_back (c ∷ b ∷ s) f)
    (cond_pick (long && (eqb c 97 && eqb b 32)) (route_form rest) _ f e)

-- ---- what a form says

pub setup_says : (f : SetupForm) → setup_in_range f ≡ true → SetupSays f (setup_of f)
setup_says (route n f) t =
    let h : f ≤ 7 = leb-true f 7 (and_parts _ (leb f 7) t).1 in
    (refl, grind (arith, nat_tests))
setup_says start t = tt

reads_said : (s : List ℕ) (r : Result SetupForm TextFault) → Reads SetupLine setup_in_range (λ f g. g ≡ f) s r → ReadsSetup s (said r)
reads_said s (Ok g) w =
    let e : g ≡ w.1.0 = w.1.3 in
    (w.0, (w.1.0, w.1.1, w.1.2, subst (λ g. SetupSays w.1.0 (setup_of g)) (sym e) (setup_says w.1.0 w.1.2)))
reads_said s (Err Form) w = w
reads_said s (Err Range) w = w

pub reads_setup : (s : List ℕ) → length s ≤ 80 → ReadsSetup s (said (ranged setup_in_range (setup_form s)))
reads_setup s h = reads_said s (ranged setup_in_range (setup_form s)) (reads_ranged SetupLine setup_in_range setup_form setup_there setup_back s h)
