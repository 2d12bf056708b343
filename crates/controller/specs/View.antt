-- What a controller tells: its lines, their order by level, and four sets of lines.
use Rattle.std.specs.Prelude.{◌≡◌, ℕ, ◌<◌, Bool, true, false, not, ◌&&◌, ◌||◌, nat_lt}
use Rattle.lines.specs.Sets.{has, union, minus, only, Within}

-- `above a b`: the level of line a is above the level of line b
pub record View : Type 0 where
  pub lines : ℕ
  pub above : ℕ → ℕ → Bool
  pub pending : ℕ
  pub masked : ℕ
  pub blocked : ℕ
  pub in_service : ℕ

-- an order of lines by their levels: "above" goes one way and carries through, and so does "not above"
pub record WeakOrder (above : ℕ → ℕ → Bool) : Type 0 where
  pub asymmetric : (a b : ℕ) → above a b ≡ true → above b a ≡ false
  pub transitive : (a b c : ℕ) → above a b ≡ true → above b c ≡ true → above a c ≡ true
  pub not_above : (a b c : ℕ) → above a b ≡ false → above b c ≡ false → above a c ≡ false

-- line a goes before line b: its level is higher, or the levels are equal and its number is larger
abbrev pub ahead_by : (ℕ → ℕ → Bool) → ℕ → ℕ → Bool
ahead_by above a b = above a b || (not (above b a) && nat_lt b a)

abbrev pub ahead : View → ℕ → ℕ → Bool
ahead v = ahead_by v.above

-- line n is the first of the lines of which P holds: none of them goes before it
pub record First (goes : ℕ → ℕ → Bool) (P : ℕ → Type 0) (n : ℕ) : Type 0 where
  pub one : P n
  pub before : (m : ℕ) → P m → goes m n ≡ false

-- line n is pending, neither masked nor blocked, and above every line in service
pub record Deliverable (v : View) (n : ℕ) : Type 0 where
  pub pends : has v.pending n ≡ true
  pub unmasked : has v.masked n ≡ false
  pub unblocked : has v.blocked n ≡ false
  pub over : (m : ℕ) → has v.in_service m ≡ true → v.above n m ≡ true

-- line n is in service
abbrev pub Serving : View → ℕ → Type 0
Serving v n = has v.in_service n ≡ true

-- what every controller tells: at least one line, all below 64, and sets within them; no two lines in service of equal level
pub record Sound (v : View) : Type 0 where
  pub order : WeakOrder v.above
  pub small : (n : ℕ) → has v.lines n ≡ true → n < 64
  pub some : v.lines ≡ 0 → ⊥
  pub pending_in : Within v.pending v.lines
  pub masked_in : Within v.masked v.lines
  pub blocked_in : Within v.blocked v.lines
  pub service_in : Within v.in_service v.lines
  pub distinct : (a b : ℕ) → Serving v a → Serving v b → v.above a b ≡ false → v.above b a ≡ false → a ≡ b

-- the view with one set changed
abbrev pub set_pending : View → ℕ → View
set_pending v s = record { lines = v.lines; above = v.above; pending = s; masked = v.masked; blocked = v.blocked; in_service = v.in_service }

abbrev pub set_masked : View → ℕ → View
set_masked v s = record { lines = v.lines; above = v.above; pending = v.pending; masked = s; blocked = v.blocked; in_service = v.in_service }

abbrev pub set_blocked : View → ℕ → View
set_blocked v s = record { lines = v.lines; above = v.above; pending = v.pending; masked = v.masked; blocked = s; in_service = v.in_service }

abbrev pub set_in_service : View → ℕ → View
set_in_service v s = record { lines = v.lines; above = v.above; pending = v.pending; masked = v.masked; blocked = v.blocked; in_service = s }

-- line n pends
abbrev pub raised : View → ℕ → View
raised v n = set_pending v (union v.pending (only n))

-- line n goes from pending into service
abbrev pub taken : View → ℕ → View
taken v n = set_in_service (set_pending v (minus v.pending (only n))) (union v.in_service (only n))

-- line n leaves service
abbrev pub ended : View → ℕ → View
ended v n = set_in_service v (minus v.in_service (only n))

-- a controller as it is made: the four sets are empty
abbrev pub fresh : ℕ → (ℕ → ℕ → Bool) → View
fresh lines above = record { lines = lines; above = above; pending = 0; masked = 0; blocked = 0; in_service = 0 }
