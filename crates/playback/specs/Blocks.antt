-- A trace that comes in blocks: a line may begin in one block and end in a later one.
use Rattle.std.specs.Prelude.{◌≡◌, ℕ, Bool, List, [], ◌++◌, take}
use Rattle.trace_lines.specs.Cut.{lines_of, whole_lines, begun, last_line}
use Rattle.trace.specs.Lines.{Traced}
use Rattle.playback.specs.Traces.{PlaysLines}

-- The bytes u are kept of a line that has begun, p: its first 81. No more is needed, since every line of over 80 bytes is refused.
pub record KeptOf (p u : List ℕ) : Type 0 where
  pub unended : whole_lines p ≡ []
  pub first : u ≡ take 81 p

-- A block, after which u' is kept in place of u: the lines that it ends are played, the first of them from its beginning p in earlier blocks on.
abbrev pub Feeds : List ℕ → Bool → Traced → List ℕ → List ℕ → List ℕ → Bool → Traced → List ℕ → Type 0
Feeds u on s block xs u' on' s' ys =
    (p : List ℕ) → KeptOf p u → PlaysLines on s (whole_lines (p ++ block)) xs on' s' ys × KeptOf (begun (p ++ block)) u'

-- The end of the input: what has begun is a last line.
abbrev pub Finishes : List ℕ → Bool → Traced → List ℕ → Bool → Traced → List ℕ → Type 0
Finishes u on s xs on' s' ys = (p : List ℕ) → KeptOf p u → PlaysLines on s (last_line p) xs on' s' ys

-- Two blocks are played as one, and their listings one after the other: however the input is cut, the same is listed.
abbrev pub BlocksJoin : Type 0
BlocksJoin =
    (u u₁ u₂ b c ys zs : List ℕ) (on on₁ on₂ : Bool) (s s₁ s₂ : Traced)
    → Feeds u on s b [] u₁ on₁ s₁ ys → Feeds u₁ on₁ s₁ c [] u₂ on₂ s₂ zs → Feeds u on s (b ++ c) [] u₂ on₂ s₂ (ys ++ zs)

-- The text t as one block, and then the end of the input, play all lines of the text.
abbrev pub BlockIsText : Type 0
BlockIsText =
    (t u ys zs : List ℕ) (on on₁ on₂ : Bool) (s s₁ s₂ : Traced)
    → Feeds [] on s t [] u on₁ s₁ ys → Finishes u on₁ s₁ [] on₂ s₂ zs → PlaysLines on s (lines_of t) [] on₂ s₂ (ys ++ zs)
