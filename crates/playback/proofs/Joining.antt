-- Lines that go from block to block.
use Rattle.std.proofs.Common.{◌≡◌, ℕ, zero, suc, ◌-◌, ◌<◌, ◌≤◌, min, Bool, true, false, cond, List, [], ◌∷◌, ◌++◌, length, take, is_ok, IfOk, Ok, Err, Result, sym, refl, ap, ◌∙◌, subst, inl, append_assoc, arith, length-take}
use native.Mathlib.Nat.{sub-zero, min_comm, min-eq_left}
use native.Mathlib.Decide.{dec_le}
use Rattle.std.proofs.lemmas.List.{take_all, take-take, take-append-le}
use Rattle.model.specs.Machine.{MachineModel}
use Rattle.model.specs.Run.{Entry}
use Rattle.trace_lines.specs.declared.commands.TextFault.TheVariants.{Form, Range}
use Rattle.trace_lines.specs.Cut.{whole_lines, begun, last_line, FirstWholeLine, NoWholeLine}
use Rattle.trace_lines.proofs.Cutting.{lines_are, cut_anywhere, unended_begun, unended_more, unended_first, begun_unended}
use Rattle.listing.specs.declared.listed.Listed.{Listed}
use Rattle.listing.specs.declared.listed.TraceFault.{TraceFault}
use Rattle.trace.specs.Lines.{Traced, PlaysSetup, PlaysCommand, Plays}
use Rattle.playback.specs.Traces.{LineMakes, PlaysAll, PlaysLines}
use Rattle.playback.specs.Blocks.{KeptOf, Feeds, Finishes, BlocksJoin, BlockIsText}
use Rattle.playback.proofs.Playing.{plays_none, plays_joined}

-- ---- long lines are all alike

long_setup : (m m' : MachineModel) (l k : List ℕ) (r : Result Listed TraceFault) (on : Bool) → 80 < length l → 80 < length k → PlaysSetup m l r on m' → PlaysSetup m k r on m'
long_setup m m' l k r on g h (Ok c, p, w) = absurd (omega (arith, g, p.0))
long_setup m m' l k r on g h (Err Form, p, w) = (Err Form, inl h, w)
long_setup m m' l k r on g h (Err Range, p, w) = absurd (omega (arith, g, p.0))

long_command : (s s' : Traced) (l k : List ℕ) (r : Result Listed TraceFault) → 80 < length l → 80 < length k → PlaysCommand s l r s' → PlaysCommand s k r s'
long_command s s' l k r g h (Ok c, p, w) = absurd (omega (arith, g, p.0))
long_command s s' l k r g h (Err Form, p, w) = (Err Form, inl h, w)
long_command s s' l k r g h (Err Range, p, w) = absurd (omega (arith, g, p.0))

long_plays : (on on' : Bool) (s s' : Traced) (l k : List ℕ) (r : Result Listed TraceFault) → 80 < length l → 80 < length k → Plays on s l r on' s' → Plays on s k r on' s'
long_plays false on' s s' l k r g h p = (long_setup s.machine s'.machine l k r on' g h p.0, p.1, p.2)
long_plays true on' s s' l k r g h p = (p.0, long_command s s' l k r g h p.1)

long_makes : (on : Bool) (m m' : MachineModel) (l k : List ℕ) (r : Result Listed TraceFault) (h : List Entry) → 80 < length l → 80 < length k → LineMakes on m l r h m' → LineMakes on m k r h m'
long_makes false m m' l k r h a b w = w
long_makes true m m' l k r h a b (Ok c, p, w, x) = absurd (omega (arith, a, p.0))
long_makes true m m' l k r h a b (Err Form, p, w, x) = (Err Form, inl b, w, x)
long_makes true m m' l k r h a b (Err Range, p, w, x) = absurd (omega (arith, a, p.0))

long_all : (on on' : Bool) (s s' : Traced) (l k : List ℕ) (rs : List (Result Listed TraceFault)) (h : List Entry) → 80 < length l → 80 < length k
    → PlaysAll on s (l ∷ []) rs h on' s' → PlaysAll on s (k ∷ []) rs h on' s'
long_all on on' s s' l k [] h a b p = absurd p
long_all on on' s s' l k (r ∷ rs) h a b (o, x, h₀, h₁, pl, mk, rest, e) =
    (o, x, h₀, h₁, long_plays on o s x l k r a b pl, long_makes on s.machine x.machine l k r h₀ a b mk, rest, e)

-- so that the first 81 bytes of a line are played as the line
pub as_whole : (on on' : Bool) (s s' : Traced) (l xs ys : List ℕ) → PlaysLines on s (take 81 l ∷ []) xs on' s' ys → PlaysLines on s (l ∷ []) xs on' s' ys
as_whole on on' s s' l xs ys p =
    elim (dec_le (length l) 81) [
      | yes h ↦ subst (λ z. PlaysLines on s (z ∷ []) xs on' s' ys) (take_all 81 l h) p
      | no h ↦ record {
        results = p.results;
        made = p.made;
        plays = long_all on on' s s' (take 81 l) l p.results p.made (simp length-take (omega arith)) (omega arith) p.plays;
        lists = p.lists;
      }
    ]

-- ---- the bytes that are kept

kept_more : (p b : List ℕ) → take 81 (take 81 p ++ b) ≡ take 81 (p ++ b)
kept_more p b =
    elim (dec_le (length p) 81) [
      | yes h ↦ ap (λ z. take 81 (z ++ b)) (take_all 81 p h)
      | no h ↦ take-append-le 81 (take 81 p) b (simp length-take (omega arith)) ∙ take-take 81 81 p (omega arith) ∙ sym (take-append-le 81 p b (omega arith))
    ]

take_over : (n : ℕ) (u b : List ℕ) → length u ≤ n → take n (u ++ b) ≡ u ++ take (n - length u) b
take_over n [] b h = ap (λ k. take k b) (sym (sub-zero n))
take_over zero (x ∷ u) b h = absurd (omega arith)
take_over (suc n) (x ∷ u) b h =
    let e : n - length u ≡ suc n - suc (length u) = omega arith in ap (λ z. x ∷ z) (take_over n u b (omega arith)) ∙ ap (λ k. x ∷ (u ++ take k b)) e

take_room : (k : ℕ) (b : List ℕ) → take (min k (length b)) b ≡ take k b
take_room k b =
    elim (dec_le k (length b)) [
      | yes h ↦ ap (λ n. take n b) (min-eq_left h)
      | no h ↦ ap (λ n. take n b) (min_comm k (length b) ∙ min-eq_left {n = length b} {m = k} (omega arith)) ∙ take_all (length b) b (omega arith) ∙ sym (take_all k b (omega arith))
    ]

-- what is kept once as much of b is added to u as there is room for
pub keeps : {E : Type 0} (r : Result (Unit {0}) E) (u b z : List ℕ) (n m : ℕ) → m ≡ length u → length u ≤ 81 → n ≡ min (81 - m) (length b) → z ≡ cond (is_ok r) (u ++ take (n - 0) b) u
    → IfOk r (λ _. z ≡ take 81 (u ++ b))
keeps (Ok a) u b z n m e h f g =
    g ∙ ap (λ k. u ++ take k b) (sub-zero n ∙ f ∙ ap (λ k. min (81 - k) (length b)) e) ∙ ap (λ y. u ++ y) (take_room (81 - length u) b) ∙ sym (take_over 81 u b h)
keeps (Err d) u b z n m e h f g = tt

-- a block without a line feed
pub feeds_none : (on : Bool) (s : Traced) (u b xs u' : List ℕ) → NoWholeLine b → u' ≡ take 81 (u ++ b) → Feeds u on s b xs u' on s xs
feeds_none on s u b xs u' n e p k =
    let w = unended_more p b k.unended n.lines in (
      subst (λ z. PlaysLines on s z xs on s xs) (sym w) (plays_none on s xs),
      subst (λ z. KeptOf z u') (sym (unended_begun (p ++ b) w)) (record { unended = w; first = e ∙ ap (λ z. take 81 (z ++ b)) k.first ∙ kept_more p b }),
    )

-- a block that ends the line that has begun, and then others
pub feeds_some : (on on₁ on₂ : Bool) (s s₁ s₂ : Traced) (u b line rest xs ys zs kept tail u' : List ℕ) → FirstWholeLine b line rest → kept ≡ take 81 (u ++ line)
    → PlaysLines on s (kept ∷ []) xs on₁ s₁ ys → PlaysLines on₁ s₁ (whole_lines rest) ys on₂ s₂ zs → tail ≡ begun rest → u' ≡ take 81 tail
    → Feeds u on s b xs u' on₂ s₂ zs
feeds_some on on₁ on₂ s s₁ s₂ u b line rest xs ys zs kept tail u' c e a d f h p k =
    let (x, y) = unended_first p b line rest k.unended c in
    let l : kept ≡ take 81 (p ++ line) = e ∙ ap (λ z. take 81 (z ++ line)) k.first ∙ kept_more p line in (
      subst (λ z. PlaysLines on s z xs on₂ s₂ zs) (sym x)
          (plays_joined on on₁ on₂ s s₁ s₂ ((p ++ line) ∷ []) (whole_lines rest) xs ys zs (as_whole on on₁ s s₁ (p ++ line) xs ys (subst (λ z. PlaysLines on s (z ∷ []) xs on₁ s₁ ys) l a)) d),
      subst (λ z. KeptOf z u') (sym y) (record { unended = begun_unended rest; first = h ∙ ap (take 81) f }),
    )

-- the end of the input
finishes : (on on' : Bool) (s s' : Traced) (u xs ys : List ℕ) → PlaysLines on s (last_line u) xs on' s' ys → Finishes u on s xs on' s' ys
finishes on on' s s' u xs ys a [] k = subst (λ z. PlaysLines on s (last_line z) xs on' s' ys) k.first a
finishes on on' s s' u xs ys a (c ∷ p) k = as_whole on on' s s' (c ∷ p) xs ys (subst (λ z. PlaysLines on s (last_line z) xs on' s' ys) k.first a)

pub finishes_by : {P E : Type 0} (r : Result P E) (f : P → Bool) (g : P → Traced) (on : Bool) (s : Traced) (u last xs ys : List ℕ) → last ≡ u
    → IfOk r (λ p. PlaysLines on s (last_line last) xs (f p) (g p) ys) → IfOk r (λ p. Finishes u on s xs (f p) (g p) ys)
finishes_by (Ok p) f g on s u last xs ys e a = finishes on (f p) s (g p) u xs ys (subst (λ z. PlaysLines on s (last_line z) xs (f p) (g p) ys) e a)
finishes_by (Err d) f g on s u last xs ys e a = tt

-- ---- blocks one after another

behind : (on on' : Bool) (s s' : Traced) (ls : List (List ℕ)) (xs ys : List ℕ) → PlaysLines on s ls [] on' s' ys → PlaysLines on s ls xs on' s' (xs ++ ys)
behind on on' s s' ls xs ys p = record { results = p.results; made = p.made; plays = p.plays; lists = ap (λ z. xs ++ z) p.lists }

pub blocks_join : BlocksJoin
blocks_join u u₁ u₂ b c ys zs on on₁ on₂ s s₁ s₂ f g p k =
    let (x, y) = f p k in
    let (z, w) = g (begun (p ++ b)) y in
    let (d, e) = cut_anywhere (p ++ b) c in
    let a = append_assoc p b c in (
      subst (λ t. PlaysLines on s t [] on₂ s₂ (ys ++ zs)) (sym d ∙ ap whole_lines a)
          (plays_joined on on₁ on₂ s s₁ s₂ (whole_lines (p ++ b)) (whole_lines (begun (p ++ b) ++ c)) [] ys (ys ++ zs) x (behind on₁ on₂ s₁ s₂ (whole_lines (begun (p ++ b) ++ c)) ys zs z)),
      subst (λ t. KeptOf t u₂) (sym e ∙ ap begun a) w,
    )

pub block_is_text : BlockIsText
block_is_text t u ys zs on on₁ on₂ s s₁ s₂ f g =
    let (x, y) = f [] (record { unended = refl; first = refl }) in
    subst (λ l. PlaysLines on s l [] on₂ s₂ (ys ++ zs)) (sym (lines_are t))
    (plays_joined on on₁ on₂ s s₁ s₂ (whole_lines t) (last_line (begun t)) [] ys (ys ++ zs) x (behind on₁ on₂ s₁ s₂ (last_line (begun t)) ys zs (g (begun t) y)))
