-- Picking a line of a set.
use Rattle.std.specs.Prelude.{◌≡◌, ℕ, Bool, true, cond, Some, None, Option}
use Rattle.lines.specs.Sets.{has}
use Rattle.controller.specs.View.{First}

-- the first of the lines of which P holds, or none where there is none
abbrev pub Picks : (ℕ → ℕ → Bool) → (ℕ → Type 0) → Option ℕ → Type 0
Picks goes P None = (n : ℕ) → P n → ⊥
Picks goes P (Some n) = First goes P n

-- a line of s that is above every line of t
abbrev pub Over : (ℕ → ℕ → Bool) → ℕ → ℕ → ℕ → Type 0
Over above s t n = (has s n ≡ true) × ((m : ℕ) → has t m ≡ true → above n m ≡ true)

-- of the first so far and another line, the one that goes first
abbrev pub winner : (ℕ → ℕ → Bool) → Option ℕ → ℕ → ℕ
winner goes None n = n
winner goes (Some b) n = cond (goes b n) b n
