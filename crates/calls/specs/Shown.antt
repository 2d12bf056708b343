-- What a reply prints.
use Rattle.std.specs.Prelude.{ℕ, List, ◌++◌, codes, decimal, Some, None, Ok, Err, Option, true, false}
use Rattle.controller.specs.declared.fault.Raised.TheVariants.{New, Merged}
use Rattle.model.specs.declared.calls.Kernel.{Kernel}
use Rattle.model.specs.declared.calls.Kernel.TheVariants.{Head, Root}
use Rattle.model.specs.declared.calls.Place.{Place}
use Rattle.model.specs.declared.calls.Place.TheVariants.{Hardware, Kernel as kernel}
use Rattle.model.specs.declared.calls.Answer.{Answer}
use Rattle.model.specs.declared.calls.Answer.TheVariants.{Raised, Masked, Arrived, Delivered, Held, Busy, Ended, WasStalled, WasAtLevel, Told}
use Rattle.model.specs.Machine.{Reply}
use Rattle.model.specs.Refusals.{number_of}

abbrev pub kernel_words : Kernel → List ℕ
kernel_words Head = codes "head"
kernel_words Root = codes "root"

abbrev pub place_words : Place → List ℕ
place_words Hardware = codes "hardware"
place_words (kernel k) = kernel_words k

-- an answer; nothing is said of one with a set of lines, since the library's `{:x}` says nothing of what it prints
abbrev pub answer_words : Answer → Option (List ℕ)
answer_words (Raised New) = Some (codes "new")
answer_words (Raised Merged) = Some (codes "merged")
answer_words Masked = Some (codes "ok")
answer_words (Arrived count set) = None
answer_words (Delivered (Some line)) = Some (decimal line)
answer_words (Delivered None) = Some (codes "none")
answer_words Held = Some (codes "held")
answer_words Busy = Some (codes "busy")
answer_words (Ended line) = Some (decimal line)
answer_words (WasStalled true) = Some (codes "true")
answer_words (WasStalled false) = Some (codes "false")
answer_words (WasAtLevel code) = Some (decimal code)
answer_words (Told set) = None

-- a refusal is its number and its place
abbrev pub reply_words : Reply → Option (List ℕ)
reply_words (Ok a) = answer_words a
reply_words (Err e) = Some (codes "refused, " ++ (decimal (number_of e.fault) ++ (codes " " ++ place_words e.place)))
