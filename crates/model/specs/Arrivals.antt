-- The first n deliverable lines of a controller.
use Rattle.std.specs.Prelude.{◌≡◌, ℕ, zero, suc, ◌≤◌, true, false, ◌⊎◌, Some, None, Result}
use Rattle.lines.specs.Sets.{has, union, minus, only, size}
use Rattle.controller.specs.declared.fault.ControllerFault.{ControllerFault}
use Rattle.controller.specs.View.{View, Deliverable, ahead, set_pending}
use Rattle.controller.specs.Calls.{Takes, Ends}

-- the lines of s are deliverable, and no other deliverable line goes before one of them
pub record Front (v : View) (s : ℕ) : Type 0 where
  pub ready : (n : ℕ) → has s n ≡ true → Deliverable v n
  pub before : (a b : ℕ) → has s a ≡ true → Deliverable v b → has s b ≡ false → ahead v b a ≡ false

-- s is the first n deliverable lines, or all if they are fewer
pub record Arrivals (v : View) (n s : ℕ) : Type 0 where
  pub front : Front v s
  pub most : size s ≤ n
  pub enough : (size s ≡ n) ⊎ ((k : ℕ) → Deliverable v k → has s k ≡ true)

-- u is the set of the lines of which P holds
pub record SetOf (P : ℕ → Type 0) (u : ℕ) : Type 0 where
  pub each : (n : ℕ) → has u n ≡ true → P n
  pub every : (n : ℕ) → P n → has u n ≡ true

-- the lines of s are pending no longer
abbrev pub cleared : View → ℕ → View
cleared v s = set_pending v (minus v.pending s)

-- up to n times a line is taken and the first line in service is ended, until none is deliverable: s are the lines taken
abbrev pub Passes : ℕ → View → ℕ → View → Type 0
Passes zero v s w = (s ≡ 0) × (w ≡ v)
Passes (suc n) v s w =
    (Takes v None w × (s ≡ 0))
    ⊎ ((k : ℕ) × (t : ℕ) × (u : View) × (x : View) × (r : Result ℕ ControllerFault) × Takes v (Some k) u × Ends u r x × Passes n x t w × (s ≡ union (only k) t))
