-- A text cut into lines at its line feeds.
use Rattle.std.specs.Prelude.{◌≡◌, ℕ, ◌+◌, ◌-◌, ◌<◌, ◌≤◌, cond, List, [], ◌∷◌, ◌++◌, length, drop, ◌==◌}

-- a byte put before the first of some lines; where there is none, it begins one
abbrev pub before_first : ℕ → List (List ℕ) → List (List ℕ)
before_first c [] = (c ∷ []) ∷ []
before_first c (l ∷ ls) = (c ∷ l) ∷ ls

-- The lines of a text, without their line feeds. A last line without line feed counts; a text that ends in a line feed has no further line.
abbrev pub lines_of : List ℕ → List (List ℕ)
lines_of [] = []
lines_of (c ∷ s) = cond (c == 10) ([] ∷ lines_of s) (before_first c (lines_of s))

-- the first line of a text s, and what comes after it and its line feed
pub record FirstLine (s line rest : List ℕ) : Type 0 where
  pub lines : lines_of s ≡ line ∷ lines_of rest
  pub after : rest ≡ drop (length line + 1) s
  pub shorter : length rest < length s

-- ---- whole lines

-- a byte put before the first of some lines, if there is one
abbrev pub onto_first : ℕ → List (List ℕ) → List (List ℕ)
onto_first c [] = []
onto_first c (l ∷ ls) = (c ∷ l) ∷ ls

-- the lines of a text that a line feed ends
abbrev pub whole_lines : List ℕ → List (List ℕ)
whole_lines [] = []
whole_lines (c ∷ s) = cond (c == 10) ([] ∷ whole_lines s) (onto_first c (whole_lines s))

-- a byte before the bytes u, where no whole line comes between
abbrev pub before_begun : ℕ → List (List ℕ) → List ℕ → List ℕ
before_begun c [] u = c ∷ u
before_begun c (l ∷ ls) u = u

-- what stands after the last line feed: a line that has begun, or nothing
abbrev pub begun : List ℕ → List ℕ
begun [] = []
begun (c ∷ s) = cond (c == 10) (begun s) (before_begun c (whole_lines s) (begun s))

-- u is the end of the text s: what comes after its first bytes
abbrev pub IsEnd : List ℕ → List ℕ → Type 0
IsEnd u s = (length u ≤ length s) × (drop (length s - length u) s ≡ u)

-- what has begun as a last line, if it is not empty
abbrev pub last_line : List ℕ → List (List ℕ)
last_line [] = []
last_line (c ∷ s) = (c ∷ s) ∷ []

-- the lines of a text are its whole lines and then the one that has begun
abbrev pub LinesAre : Type 0
LinesAre = (s : List ℕ) → lines_of s ≡ whole_lines s ++ last_line (begun s)

-- a text may be cut anywhere: what has begun before the cut goes on after it
abbrev pub CutAnywhere : Type 0
CutAnywhere =
    (s t : List ℕ) → (whole_lines (s ++ t) ≡ whole_lines s ++ whole_lines (begun s ++ t)) × (begun (s ++ t) ≡ begun (begun s ++ t))

-- the first whole line of a text s, and what comes after its line feed
pub record FirstWholeLine (s line rest : List ℕ) : Type 0 where
  pub lines : whole_lines s ≡ line ∷ whole_lines rest
  pub begins : begun s ≡ begun rest
  pub after : rest ≡ drop (length line + 1) s
  pub within : length line < length s

-- a text without a line feed
pub record NoWholeLine (s : List ℕ) : Type 0 where
  pub lines : whole_lines s ≡ []
  pub begins : begun s ≡ s
