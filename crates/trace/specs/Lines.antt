-- What a line of a trace does.
use Rattle.std.specs.Prelude.{◌≡◌, ℕ, ◌<◌, ◌≤◌, Bool, true, false, List, ◌++◌, length, drop, Ok, Err, Result, MatchResult}
use Rattle.levels.specs.declared.Class.{Class}
use Rattle.levels.specs.declared.BsdLevel.{BsdLevel}
use Rattle.spl.specs.Head.{head_code, head_named}
use Rattle.spl.specs.Root.{root_code, root_named}
use Rattle.model.specs.declared.calls.Kernel.TheVariants.{Head as head, Root as root}
use Rattle.model.specs.declared.calls.StageCall.TheVariants as stage_call
use Rattle.model.specs.declared.calls.Call.{Call}
use Rattle.model.specs.declared.calls.Call.TheVariants as call
use Rattle.model.specs.Machine.{MachineModel, Routes}
use Rattle.routes.specs.declared.Route.{Route as RouteOf}
use Rattle.routes.specs.Sets.{routes, with_flag}
use Rattle.machine.specs.Routing.{Routed}
use Rattle.trace_lines.specs.declared.commands.TextFault.{TextFault}
use Rattle.trace_lines.specs.declared.commands.Setup.{Setup}
use Rattle.trace_lines.specs.declared.commands.Setup.TheVariants.{Route, Start}
use Rattle.trace_lines.specs.Grammar.{ReadsSetup, ReadsCommand}
use Rattle.trace_lines.specs.declared.commands.Command.{Command}
use Rattle.trace_lines.specs.declared.commands.Command.TheVariants.{Raise, MaskHardware, Mask, Pump, Next, Done, Stall, Unstall, SetLevel, RestoreLevel}
use Rattle.listing.specs.declared.listed.Listed.{Listed}
use Rattle.listing.specs.declared.listed.Listed.TheVariants.{Accepted, Answered, Restored}
use Rattle.listing.specs.declared.listed.ShortBuffer.{ShortBuffer}
use Rattle.listing.specs.Listing.{line}
use Rattle.listing.specs.declared.listed.TraceFault.{TraceFault}
use Rattle.listing.specs.declared.listed.TraceFault.TheVariants.{Text, Machine, Saved}
use Rattle.trace.specs.declared.saved.Saved.{Saved as SavedLevels}
use Rattle.trace.specs.Calls.{Levels, levels_in, Called, Saves, Restores}

-- what the lines of a trace change: the machine and the saved levels of both kernels
pub record Traced : Type 0 where
  pub machine : MachineModel
  pub at_head : Levels Class
  pub at_root : Levels BsdLevel

abbrev pub traced : MachineModel → Levels Class → Levels BsdLevel → Traced
traced m a b = record { machine = m; at_head = a; at_root = b }

-- the machine with the levels saved on the stacks of its kernels
abbrev pub traced_by : MachineModel → SavedLevels → Traced
traced_by m s = traced m (levels_in s.head) (levels_in s.root)

-- a call of the machine leaves the saved levels
abbrev pub Calls : Traced → Call → Result Listed TraceFault → Traced → Type 0
Calls s c r s' = Called s.machine c r s'.machine × (s'.at_head ≡ s.at_head) × (s'.at_root ≡ s.at_root)

-- what each command after the start answers and leaves
abbrev pub Obeys : Traced → Command → Result Listed TraceFault → Traced → Type 0
Obeys s (Raise n) r s' = Calls s (call.Raise n) r s'
Obeys s (MaskHardware lines) r s' = Calls s (call.MaskHardware lines) r s'
Obeys s (Mask k lines) r s' = Calls s (call.To k (stage_call.Mask lines)) r s'
Obeys s (Pump n) r s' = Calls s (call.Pump n) r s'
Obeys s (Next k) r s' = Calls s (call.Next k) r s'
Obeys s (Done k) r s' = Calls s (call.To k stage_call.Done) r s'
Obeys s (Stall k) r s' = Calls s (call.To k stage_call.Stall) r s'
Obeys s (Unstall k) r s' = Calls s (call.To k stage_call.Unstall) r s'
Obeys s (SetLevel head c) r s' =
    Saves head_named head_code head c s.machine s.at_head r s'.machine s'.at_head × (s'.at_root ≡ s.at_root)
Obeys s (SetLevel root c) r s' =
    Saves root_named root_code root c s.machine s.at_root r s'.machine s'.at_root × (s'.at_head ≡ s.at_head)
Obeys s (RestoreLevel head) r s' =
    Restores head_code head s.machine s.at_head r s'.machine s'.at_head × (s'.at_root ≡ s.at_root)
Obeys s (RestoreLevel root) r s' =
    Restores root_code root s.machine s.at_root r s'.machine s'.at_root × (s'.at_head ≡ s.at_head)

-- ---- before the start

-- the routes with that of line n set anew
abbrev pub reroute : Routes → ℕ → RouteOf → Routes
reroute r n x =
    routes (with_flag (r.handles head) n x.head_handles) (with_flag (r.passes head) n x.head_passes) (with_flag (r.handles root) n x.root_handles)

abbrev pub with_routes : MachineModel → Routes → MachineModel
with_routes m r = record { hardware = m.hardware; stage = m.stage; routes = r }

-- a route is set, or refused and nothing changes
abbrev pub Reroutes : MachineModel → ℕ → RouteOf → Result Listed TraceFault → MachineModel → Type 0
Reroutes m n x (Ok Accepted) m' =
    Routed m.hardware.lines (m.stage head).own.lines (m.stage root).own.lines n x (Ok tt) × (m' ≡ with_routes m (reroute m.routes n x))
Reroutes m n x (Ok (Answered a)) m' = ⊥
Reroutes m n x (Ok (Restored c)) m' = ⊥
Reroutes m n x (Err (Text e)) m' = ⊥
Reroutes m n x (Err (Machine e)) m' = Routed m.hardware.lines (m.stage head).own.lines (m.stage root).own.lines n x (Err e) × (m' ≡ m)
Reroutes m n x (Err (Saved e k)) m' = ⊥

-- what each command before the start answers and leaves; `on` says whether the machine has started then
abbrev pub SetsUp : MachineModel → Setup → Result Listed TraceFault → Bool → MachineModel → Type 0
SetsUp m (Route n x) r on m' = (on ≡ false) × Reroutes m n x r m'
SetsUp m Start r on m' = (on ≡ true) × (r ≡ Ok Accepted) × (m' ≡ m)

-- ---- a line

-- a line before the start is read and obeyed; one that is no command is refused, and nothing changes
abbrev pub PlaysSetup : MachineModel → List ℕ → Result Listed TraceFault → Bool → MachineModel → Type 0
PlaysSetup m l r on m' =
    (c : Result Setup TextFault) × ReadsSetup l c × MatchResult c (λ x. SetsUp m x r on m') (λ e. (r ≡ Err (Text e)) × (on ≡ false) × (m' ≡ m))

-- and so is one after the start
abbrev pub PlaysCommand : Traced → List ℕ → Result Listed TraceFault → Traced → Type 0
PlaysCommand s l r s' = (c : Result Command TextFault) × ReadsCommand l c × MatchResult c (λ x. Obeys s x r s') (λ e. (r ≡ Err (Text e)) × (s' ≡ s))

-- a line by the phase of the machine
abbrev pub Plays : Bool → Traced → List ℕ → Result Listed TraceFault → Bool → Traced → Type 0
Plays false s l r on s' = PlaysSetup s.machine l r on s'.machine × (s'.at_head ≡ s.at_head) × (s'.at_root ≡ s.at_root)
Plays true s l r on s' = (on ≡ true) × PlaysCommand s l r s'

-- A step: the line is listed at the start of the buffer xs, which is ys then, and the answer counts the bytes; those past them stay. A buffer under
-- 20 bytes is refused before all else, and everything stays.
abbrev pub Steps : Bool → Traced → List ℕ → List ℕ → Result ℕ ShortBuffer → Bool → Traced → List ℕ → Type 0
Steps on s l xs (Ok n) on' s' ys =
    (20 ≤ length xs) × ((r : Result Listed TraceFault) × Plays on s l r on' s' × (n ≡ length (line r)) × (ys ≡ line r ++ drop n xs))
Steps on s l xs (Err e) on' s' ys = (length xs < 20) × (on' ≡ on) × (s' ≡ s) × (ys ≡ xs)
