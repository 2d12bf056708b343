-- Two chips as one set of lines.
use Rattle.std.specs.Prelude.{◌≡◌, ℕ, ◌+◌, ◌*◌, not, ◌==◌}
use Rattle.lines.specs.Sets.{has, minus, only}

-- the master's inputs but 2 are lines 0 to 7, and the slave's are lines 8 to 15
unfoldable pub joined : ℕ → ℕ → ℕ
joined master slave = minus (slave * 256 + master) (only 2)

-- the master's in-service bit 2 is set exactly when some slave in-service bit is set
abbrev pub Cascaded : ℕ → ℕ → Type 0
Cascaded master slave = has master 2 ≡ not (slave == 0)
