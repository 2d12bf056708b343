-- The whole lines of a text, played one after another.
use Rattle.std.proofs.Common.{◌≡◌, ℕ, Bool, List, [], ◌∷◌, ◌++◌, length, IfOk, Ok, Err, Result, sym, refl, ap, ◌∙◌, subst, append_assoc, append-nil, arith}
use Rattle.trace_lines.specs.Cut.{lines_of, whole_lines, begun, last_line, FirstWholeLine, NoWholeLine}
use Rattle.trace_lines.proofs.Cutting.{lines_are}
use Rattle.trace.specs.declared.saved.Saved.{Saved}
use Rattle.trace.specs.Calls.{SameStacks}
use Rattle.trace.specs.Lines.{Traced}
use Rattle.playback.specs.Traces.{PlaysLines}
use Rattle.playback.proofs.Playing.{plays_none, plays_joined}

-- what is so once some whole lines of a text are played, and `rest` comes after them; the stacks' places are those lent
pub record SoFar (w : Saved) (on : Bool) (s : Traced) (text xs rest : List ℕ) (w' : Saved) (on' : Bool) (s' : Traced) (ys : List ℕ) : Type 0 where
  pub lent : SameStacks w w'
  pub lines : List (List ℕ)
  pub whole : whole_lines text ≡ lines ++ whole_lines rest
  pub begins : begun text ≡ begun rest
  pub plays : PlaysLines on s lines xs on' s' ys

pub so_far_none : (w : Saved) (on : Bool) (s : Traced) (text xs : List ℕ) → SoFar w on s text xs text w on s xs
so_far_none w on s text xs = record { lent = (refl, refl); lines = []; whole = refl; begins = refl; plays = plays_none on s xs }

pub so_far_more : (w w₁ w₂ : Saved) (on on₁ on₂ : Bool) (s s₁ s₂ : Traced) (text xs ys zs rest line after : List ℕ)
    → SoFar w on s text xs rest w₁ on₁ s₁ ys → FirstWholeLine rest line after → SameStacks w₁ w₂
    → PlaysLines on₁ s₁ (line ∷ []) ys on₂ s₂ zs → SoFar w on s text xs after w₂ on₂ s₂ zs
so_far_more w w₁ w₂ on on₁ on₂ s s₁ s₂ text xs ys zs rest line after h c (a, b) p =
    record {
      lent = (a ∙ h.lent.0, b ∙ h.lent.1);
      lines = h.lines ++ (line ∷ []);
      whole = h.whole ∙ ap (λ z. h.lines ++ z) c.lines ∙ sym (append_assoc h.lines (line ∷ []) (whole_lines after));
      begins = h.begins ∙ c.begins;
      plays = plays_joined on on₁ on₂ s s₁ s₂ h.lines (line ∷ []) xs ys zs h.plays p;
    }

-- and once no whole line is left
pub so_far_all : (w w₁ : Saved) (on on₁ : Bool) (s s₁ : Traced) (text xs ys rest : List ℕ)
    → SoFar w on s text xs rest w₁ on₁ s₁ ys → NoWholeLine rest → PlaysLines on s (whole_lines text) xs on₁ s₁ ys × (rest ≡ begun text)
so_far_all w w₁ on on₁ s s₁ text xs ys rest h c =
    let d : whole_lines text ≡ h.lines = h.whole ∙ ap (λ z. h.lines ++ z) c.lines ∙ append-nil h.lines in
    (subst (λ z. PlaysLines on s z xs on₁ s₁ ys) (sym d) h.plays, sym c.begins ∙ sym h.begins)

-- ---- the last line

last_none : (s : List ℕ) → length s ≡ 0 → last_line s ≡ []
last_none [] h = refl
last_none (c ∷ s) h = absurd (omega arith)

pub plays_no_last : (on : Bool) (s : Traced) (begun xs : List ℕ) → length begun ≡ 0 → PlaysLines on s (last_line begun) xs on s xs
plays_no_last on s begun xs h = subst (λ z. PlaysLines on s z xs on s xs) (sym (last_none begun h)) (plays_none on s xs)

pub plays_a_last : {P E : Type 0} (r : Result P E) (f : P → Bool) (g : P → Traced) (on : Bool) (s : Traced) (begun xs ys : List ℕ) → (length begun ≡ 0 → ⊥)
    → IfOk r (λ p. PlaysLines on s (begun ∷ []) xs (f p) (g p) ys) → IfOk r (λ p. PlaysLines on s (last_line begun) xs (f p) (g p) ys)
plays_a_last r f g on s [] xs ys h p = absurd (h refl)
plays_a_last r f g on s (c ∷ b) xs ys h p = p

-- the whole lines of a text and then the last one
pub plays_last : {P E : Type 0} (r : Result P E) (f : P → Bool) (g : P → Traced) (on on₁ : Bool) (s s₁ : Traced) (text xs ys zs rest : List ℕ)
    → PlaysLines on s (whole_lines text) xs on₁ s₁ ys → rest ≡ begun text
    → IfOk r (λ p. PlaysLines on₁ s₁ (last_line rest) ys (f p) (g p) zs) → IfOk r (λ p. PlaysLines on s (lines_of text) xs (f p) (g p) zs)
plays_last (Ok p) f g on on₁ s s₁ text xs ys zs rest a b q =
    subst (λ z. PlaysLines on s z xs (f p) (g p) zs) (sym (lines_are text))
    (plays_joined on on₁ (f p) s s₁ (g p) (whole_lines text) (last_line (begun text)) xs ys zs a (subst (λ z. PlaysLines on₁ s₁ (last_line z) ys (f p) (g p) zs) b q))
plays_last (Err d) f g on on₁ s s₁ text xs ys zs rest a b q = tt
