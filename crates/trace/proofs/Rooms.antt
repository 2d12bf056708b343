-- Every line of a trace is listed in at most 20 bytes.
use Rattle.std.proofs.Common.{◌≡◌, ℕ, ◌≤◌, Bool, true, false, cond, List, length, Ok, Err, Option, Result, refl, ap, ◌∙◌, ⊎_elim, arith}
use Rattle.std.proofs.lemmas.Bool.{le-leb}
use Rattle.lines.specs.Sets.{size}
use Rattle.controller.specs.declared.fault.ControllerFault.{ControllerFault}
use Rattle.controller.specs.declared.fault.Raised.{Raised}
use Rattle.spl.specs.Head.{head_code, head_named}
use Rattle.spl.specs.Root.{root_code, root_named}
use Rattle.model.specs.declared.calls.Kernel.{Kernel}
use Rattle.model.specs.declared.calls.Kernel.TheVariants.{Head as head, Root as root}
use Rattle.model.specs.declared.calls.Place.{Place}
use Rattle.model.specs.declared.calls.StageCall.{StageCall}
use Rattle.model.specs.declared.calls.StageCall.TheVariants as stage_call
use Rattle.model.specs.declared.calls.Call.{Call}
use Rattle.model.specs.declared.calls.Call.TheVariants as call
use Rattle.model.specs.Machine.{MachineModel, Reply, Step, StageStep, Nexts, Pumps, raise_says, mask_says, done_says, level_says, pump_says}
use Rattle.trace_lines.specs.declared.commands.Setup.{Setup}
use Rattle.trace_lines.specs.declared.commands.Setup.TheVariants.{Route, Start}
use Rattle.trace_lines.specs.declared.commands.Command.{Command}
use Rattle.trace_lines.specs.declared.commands.Command.TheVariants.{Raise, MaskHardware, Mask, Pump, Next, Done, Stall, Unstall, SetLevel, RestoreLevel}
use Rattle.spl.specs.declared.fault.LevelFault.{LevelFault}
use Rattle.routes.specs.declared.Route.{Route as RouteOf}
use Rattle.listing.specs.declared.listed.Listed.{Listed}
use Rattle.listing.specs.declared.listed.Listed.TheVariants.{Accepted, Answered, Restored}
use Rattle.listing.specs.declared.listed.ShortBuffer.{ShortBuffer}
use Rattle.listing.specs.Listing.{answer_room, room, Writes}
use Rattle.listing.specs.declared.listed.TraceFault.{TraceFault}
use Rattle.listing.specs.declared.listed.TraceFault.TheVariants.{Text, Machine, Saved}
use Rattle.trace.specs.Calls.{Levels, Called, Saves, Restores}
use Rattle.trace.specs.Lines.{Traced, Obeys, Reroutes, SetsUp, PlaysSetup, PlaysCommand, Plays, Steps}

-- ---- the replies of the machine

abbrev reply_room : Reply → ℕ
reply_room (Ok a) = answer_room a
reply_room (Err e) = 20

raise_room : (r : Result Raised ControllerFault) → reply_room (raise_says r) ≡ 20
raise_room (Ok x) = refl
raise_room (Err e) = refl

mask_room : (p : Place) (r : Result (Unit {0}) ControllerFault) → reply_room (mask_says p r) ≡ 20
mask_room p (Ok x) = refl
mask_room p (Err e) = refl

done_room : (k : Kernel) (r : Result ℕ ControllerFault) → reply_room (done_says k r) ≡ 20
done_room k (Ok x) = refl
done_room k (Err e) = refl

level_room : (k : Kernel) (r : Result ℕ LevelFault) → reply_room (level_says k r) ≡ 20
level_room k (Ok x) = refl
level_room k (Err e) = refl

pump_room : (n : ℕ) (m m' : MachineModel) (r : Result ℕ (Unit {0})) → Pumps 64 n m r m' → reply_room (pump_says r) ≡ 20
pump_room n m m' (Ok s) p = ap (λ t. cond t 20 21) (le-leb (size s) 99 (omega (arith, p.0, p.1.most)))
pump_room n m m' (Err e) p = refl

next_room : (k : Kernel) (m m' : MachineModel) (a : Reply) → Nexts k m a m' → reply_room a ≡ 20
next_room k m m' a n =
    ⊎_elim (λ h. ap reply_room h.1.0) (⊎_elim (λ b. ap reply_room b.2.0) (λ d. ap reply_room d.2.answers)) n

stage_room : (k : Kernel) (m m' : MachineModel) (c : StageCall) (a : Reply) → StageStep k m c a m' → reply_room a ≡ 20
stage_room k m m' stage_call.Done a s = ap reply_room s.answers ∙ done_room k s.result
stage_room k m m' (stage_call.Mask x) a s = ap reply_room s.answers ∙ mask_room _ s.result
stage_room k m m' stage_call.Stall a s = ap reply_room s.answers
stage_room k m m' stage_call.Unstall a s = ap reply_room s.answers
stage_room k m m' (stage_call.SetLevel c) a s = ap reply_room s.answers ∙ level_room k s.result

step_room : (m m' : MachineModel) (c : Call) (a : Reply) → Step m c a m' → reply_room a ≡ 20
step_room m m' (call.Raise n) a s = ap reply_room s.answers ∙ raise_room s.result
step_room m m' (call.MaskHardware x) a s = ap reply_room s.answers ∙ mask_room _ s.result
step_room m m' (call.Pump n) a s = ap reply_room s.answers ∙ pump_room n m m' s.result s.does
step_room m m' (call.Next k) a s = next_room k m m' a s
step_room m m' (call.To k c) a s = stage_room k m m' c a s
step_room m m' (call.Ask p q) a s = ap reply_room s.0

-- ---- the lines

called_room : (m m' : MachineModel) (c : Call) (r : Result Listed TraceFault) → Called m c r m' → room r ≡ 20
called_room m m' c (Ok Accepted) s = absurd s
called_room m m' c (Ok (Answered a)) s = step_room m m' c (Ok a) s
called_room m m' c (Ok (Restored n)) s = absurd s
called_room m m' c (Err (Text e)) s = absurd s
called_room m m' c (Err (Machine e)) s = refl
called_room m m' c (Err (Saved e k)) s = absurd s

module _ {L : Type 0} (named : ℕ → Option L) (codes : L → Option ℕ) (k : Kernel) (m m' : MachineModel) (s s' : Levels L) where
  saves_room : (c : ℕ) (r : Result Listed TraceFault) → Saves named codes k c m s r m' s' → room r ≡ 20
  saves_room c (Ok Accepted) p = absurd p
  saves_room c (Ok (Answered a)) p = ap answer_room p.2
  saves_room c (Ok (Restored n)) p = absurd p
  saves_room c (Err (Text e)) p = absurd p
  saves_room c (Err (Machine e)) p = refl
  saves_room c (Err (Saved e j)) p = refl

  restores_room : (r : Result Listed TraceFault) → Restores codes k m s r m' s' → room r ≡ 20
  restores_room (Ok Accepted) p = absurd p
  restores_room (Ok (Answered a)) p = absurd p
  restores_room (Ok (Restored n)) p = refl
  restores_room (Err (Text e)) p = absurd p
  restores_room (Err (Machine e)) p = refl
  restores_room (Err (Saved e j)) p = refl

obeys_room : (s s' : Traced) (c : Command) (r : Result Listed TraceFault) → Obeys s c r s' → room r ≡ 20
obeys_room s s' (Raise n) r p = called_room s.machine s'.machine (call.Raise n) r p.0
obeys_room s s' (MaskHardware x) r p = called_room s.machine s'.machine (call.MaskHardware x) r p.0
obeys_room s s' (Mask k x) r p = called_room s.machine s'.machine (call.To k (stage_call.Mask x)) r p.0
obeys_room s s' (Pump n) r p = called_room s.machine s'.machine (call.Pump n) r p.0
obeys_room s s' (Next k) r p = called_room s.machine s'.machine (call.Next k) r p.0
obeys_room s s' (Done k) r p = called_room s.machine s'.machine (call.To k stage_call.Done) r p.0
obeys_room s s' (Stall k) r p = called_room s.machine s'.machine (call.To k stage_call.Stall) r p.0
obeys_room s s' (Unstall k) r p = called_room s.machine s'.machine (call.To k stage_call.Unstall) r p.0
obeys_room s s' (SetLevel head c) r p = saves_room head_named head_code head s.machine s'.machine s.at_head s'.at_head c r p.0
obeys_room s s' (SetLevel root c) r p = saves_room root_named root_code root s.machine s'.machine s.at_root s'.at_root c r p.0
obeys_room s s' (RestoreLevel head) r p = restores_room head_named head_code head s.machine s'.machine s.at_head s'.at_head r p.0
obeys_room s s' (RestoreLevel root) r p = restores_room root_named root_code root s.machine s'.machine s.at_root s'.at_root r p.0

reroutes_room : (m m' : MachineModel) (n : ℕ) (x : RouteOf) (r : Result Listed TraceFault) → Reroutes m n x r m' → room r ≡ 20
reroutes_room m m' n x (Ok Accepted) p = refl
reroutes_room m m' n x (Ok (Answered a)) p = absurd p
reroutes_room m m' n x (Ok (Restored c)) p = absurd p
reroutes_room m m' n x (Err (Text e)) p = absurd p
reroutes_room m m' n x (Err (Machine e)) p = refl
reroutes_room m m' n x (Err (Saved e k)) p = absurd p

sets_up_room : (m m' : MachineModel) (c : Setup) (r : Result Listed TraceFault) (on : Bool) → SetsUp m c r on m' → room r ≡ 20
sets_up_room m m' (Route n x) r on w = reroutes_room m m' n x r w.1
sets_up_room m m' Start r on w = ap (λ r. room r) w.1

setup_room : (m m' : MachineModel) (l : List ℕ) (r : Result Listed TraceFault) (on : Bool) → PlaysSetup m l r on m' → room r ≡ 20
setup_room m m' l r on (Ok c, p, w) = sets_up_room m m' c r on w
setup_room m m' l r on (Err e, p, w) = ap (λ r. room r) w.0

command_room : (s s' : Traced) (l : List ℕ) (r : Result Listed TraceFault) → PlaysCommand s l r s' → room r ≡ 20
command_room s s' l r (Ok c, p, w) = obeys_room s s' c r w
command_room s s' l r (Err e, p, w) = ap (λ r. room r) w.0

plays_room : (on on' : Bool) (s s' : Traced) (l : List ℕ) (r : Result Listed TraceFault) → Plays on s l r on' s' → room r ≡ 20
plays_room false on' s s' l r p = setup_room s.machine s'.machine l r on' p.0
plays_room true on' s s' l r p = command_room s s' l r p.1

-- ---- a step

pub steps : (on on' : Bool) (s s' : Traced) (l xs ys : List ℕ) (r : Result Listed TraceFault) (w : Result ℕ ShortBuffer) → 20 ≤ length xs → Plays on s l r on' s' → Writes r xs w ys
    → Steps on s l xs w on' s' ys
steps on on' s s' l xs ys r (Ok n) h p q = (h, (r, p, q.1, q.3))
steps on on' s s' l xs ys r (Err e) h p q = absurd (omega (arith, h, q.0, plays_room on on' s s' l r p))
