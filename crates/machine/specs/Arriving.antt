-- One arrival.
use Rattle.std.specs.Prelude.{◌≡◌, ℕ, ◌<◌, Some, None, Option}
use Rattle.lines.specs.Sets.{only}
use Rattle.controller.specs.View.{First, Deliverable, ahead}
use Rattle.model.specs.Machine.{MachineModel, pumped}

-- the first deliverable line of the hardware arrives, if there is one
abbrev pub Arrives : MachineModel → Option ℕ → MachineModel → Type 0
Arrives m (Some n) m' = First (ahead m.hardware) (Deliverable m.hardware) n × (m' ≡ pumped m (only n)) × (n < 64)
Arrives m None m' = ((n : ℕ) → Deliverable m.hardware n → ⊥) × (m' ≡ m)
