-- Whole traces: what the lines of a text list, the calls of the machine that they make, and what is left.
use Rattle.std.specs.Prelude.{◌≡◌, ℕ, Bool, true, false, List, [], ◌∷◌, ◌++◌, Ok, Err, Result, MatchResult}
use Rattle.model.specs.declared.calls.Kernel.{Kernel}
use Rattle.model.specs.declared.calls.StageCall.TheVariants as stage_call
use Rattle.model.specs.declared.calls.Call.{Call}
use Rattle.model.specs.declared.calls.Call.TheVariants as call
use Rattle.model.specs.declared.calls.Answer.TheVariants as answer
use Rattle.model.specs.Machine.{MachineModel, Reply}
use Rattle.model.specs.Run.{Entry, Run, Fresh, Routable}
use Rattle.model.specs.Promises.{RunPromises}
use Rattle.trace_lines.specs.declared.commands.TextFault.{TextFault}
use Rattle.trace_lines.specs.declared.commands.Command.{Command}
use Rattle.trace_lines.specs.declared.commands.Command.TheVariants.{Raise, MaskHardware, Mask, Pump, Next, Done, Stall, Unstall, SetLevel, RestoreLevel}
use Rattle.trace_lines.specs.Cut.{lines_of}
use Rattle.trace_lines.specs.Grammar.{ReadsCommand}
use Rattle.listing.specs.declared.listed.Listed.{Listed}
use Rattle.listing.specs.declared.listed.Listed.TheVariants.{Accepted, Answered, Restored}
use Rattle.listing.specs.Listing.{line}
use Rattle.listing.specs.declared.listed.TraceFault.{TraceFault}
use Rattle.listing.specs.declared.listed.TraceFault.TheVariants.{Text, Machine, Saved}
use Rattle.trace.specs.Lines.{Traced, with_routes, Plays}

-- ---- the calls that lines make

-- the call c, made and answered
abbrev pub one_call : Call → Reply → List Entry
one_call c a = record { call = c; answer = a } ∷ []

-- what a command that is the call c made of it: its answer is listed, or its refusal
abbrev pub CalledOnce : Call → Result Listed TraceFault → List Entry → Type 0
CalledOnce c (Ok Accepted) h = ⊥
CalledOnce c (Ok (Answered a)) h = h ≡ one_call c (Ok a)
CalledOnce c (Ok (Restored n)) h = ⊥
CalledOnce c (Err (Text e)) h = ⊥
CalledOnce c (Err (Machine e)) h = h ≡ one_call c (Err e)
CalledOnce c (Err (Saved e k)) h = ⊥

-- a level set by its code c: one that is refused, for the code or for the stack, makes no call
abbrev pub LevelSet : Kernel → ℕ → Result Listed TraceFault → List Entry → Type 0
LevelSet k c (Ok Accepted) h = ⊥
LevelSet k c (Ok (Answered a)) h = h ≡ one_call (call.To k (stage_call.SetLevel c)) (Ok a)
LevelSet k c (Ok (Restored n)) h = ⊥
LevelSet k c (Err e) h = h ≡ []

-- the level saved last, whose code c is listed, is set; the level f that it takes the place of is not listed
abbrev pub LevelRestored : Kernel → Result Listed TraceFault → List Entry → Type 0
LevelRestored k (Ok Accepted) h = ⊥
LevelRestored k (Ok (Answered a)) h = ⊥
LevelRestored k (Ok (Restored c)) h = (f : ℕ) × (h ≡ one_call (call.To k (stage_call.SetLevel c)) (Ok (answer.WasAtLevel f)))
LevelRestored k (Err e) h = h ≡ []

-- the calls that each command makes, by its result
abbrev pub Makes : Command → Result Listed TraceFault → List Entry → Type 0
Makes (Raise n) r h = CalledOnce (call.Raise n) r h
Makes (MaskHardware s) r h = CalledOnce (call.MaskHardware s) r h
Makes (Mask k s) r h = CalledOnce (call.To k (stage_call.Mask s)) r h
Makes (Pump n) r h = CalledOnce (call.Pump n) r h
Makes (Next k) r h = CalledOnce (call.Next k) r h
Makes (Done k) r h = CalledOnce (call.To k stage_call.Done) r h
Makes (Stall k) r h = CalledOnce (call.To k stage_call.Stall) r h
Makes (Unstall k) r h = CalledOnce (call.To k stage_call.Unstall) r h
Makes (SetLevel k c) r h = LevelSet k c r h
Makes (RestoreLevel k) r h = LevelRestored k r h

-- The calls that a line makes, which lead from the machine m to the machine m': none before the start, and none if the line is no command.
abbrev pub LineMakes : Bool → MachineModel → List ℕ → Result Listed TraceFault → List Entry → MachineModel → Type 0
LineMakes false m l r h m' = h ≡ []
LineMakes true m l r h m' = (c : Result Command TextFault) × ReadsCommand l c × MatchResult c (λ x. Makes x r h) (λ e. h ≡ []) × Run m h m'

-- ---- whole traces

-- The lines, played one after another, have the results rs and make the calls h. `on` says whether the machine has started before them and s what they
-- find, on' and s' the same after them.
abbrev pub PlaysAll : Bool → Traced → List (List ℕ) → List (Result Listed TraceFault) → List Entry → Bool → Traced → Type 0
PlaysAll on s [] [] h on' s' = (h ≡ []) × (on' ≡ on) × (s' ≡ s)
PlaysAll on s [] (r ∷ rs) h on' s' = ⊥
PlaysAll on s (l ∷ ls) [] h on' s' = ⊥
PlaysAll on s (l ∷ ls) (r ∷ rs) h on' s' =
    (on₁ : Bool) × (s₁ : Traced) × (h₀ h₁ : List Entry) × Plays on s l r on₁ s₁ × LineMakes on s.machine l r h₀ s₁.machine × PlaysAll on₁ s₁ ls rs h₁ on' s' × (h ≡ h₀ ++ h₁)

-- the listing of the results, a line for each
abbrev pub listing_of : List (Result Listed TraceFault) → List ℕ
listing_of [] = []
listing_of (r ∷ rs) = line r ++ listing_of rs

-- the lines are played, and their listing is put behind xs, which gives ys
pub record PlaysLines (on : Bool) (s : Traced) (ls : List (List ℕ)) (xs : List ℕ) (on' : Bool) (s' : Traced) (ys : List ℕ) : Type 0 where
  pub results : List (Result Listed TraceFault)
  pub made : List Entry
  pub plays : PlaysAll on s ls results made on' s'
  pub lists : ys ≡ xs ++ listing_of results

-- the machine m as it was laid out, with the routes of another
abbrev pub started_from : MachineModel → MachineModel → MachineModel
started_from m now = with_routes m now.routes

-- A trace, played whole on a machine laid out as s tells, lists what `listing` has; and its calls are a run of that machine from a fresh start, with
-- the routes that the trace has set, of which all promises hold.
pub record Replays (s : Traced) (trace listing : List ℕ) : Type 0 where
  pub results : List (Result Listed TraceFault)
  pub made : List Entry
  pub started : Bool
  pub left : Traced
  -- each line of the text, in their order, is played and makes its calls
  pub plays : PlaysAll false s (lines_of trace) results made started left
  -- and gives one line of the listing
  pub lists : listing ≡ listing_of results
  pub fresh : Fresh (started_from s.machine left.machine)
  pub routable : Routable (started_from s.machine left.machine)
  -- nothing is lost, nothing doubled, and nothing that the root is asked changes what else is answered
  pub promises : RunPromises (started_from s.machine left.machine) made left.machine
