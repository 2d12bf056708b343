-- What a refusal of a trace is as it is listed: its number and its place.
use Rattle.model.specs.declared.calls.Place.TheVariants.{Kernel}
use Rattle.level_stack.specs.Faults.{stack_fault_number}
use Rattle.trace_lines.specs.Faults.{text_fault_number}
use Rattle.model.specs.Refusals.{number_of}
use Rattle.listing.specs.declared.listed.ListedPlace.TheVariants as place
use Rattle.listing.specs.declared.listed.Refusal.{Refusal}
use Rattle.listing.specs.declared.listed.TraceFault.{TraceFault}
use Rattle.listing.specs.declared.listed.TraceFault.TheVariants.{Text, Machine, Saved}

-- a line's is at its text; a stack of saved levels is its kernel's
abbrev pub refusal_of : TraceFault → Refusal
refusal_of (Text e) = record { number = text_fault_number e; place = place.Text }
refusal_of (Machine e) = record { number = number_of e.fault; place = place.Machine e.place }
refusal_of (Saved e k) = record { number = stack_fault_number e; place = place.Machine (Kernel k) }
