-- The lines of a listing.
use Rattle.std.specs.Prelude.{◌≡◌, ℕ, ◌<◌, ◌≤◌, Bool, true, false, cond, List, [], ◌∷◌, ◌++◌, length, drop, Some, None, Ok, Err, codes, Result, nat_le}
use Rattle.controller.specs.declared.fault.Raised.TheVariants.{New, Merged}
use Rattle.model.specs.declared.calls.Kernel.TheVariants.{Head, Root}
use Rattle.model.specs.declared.calls.Place.{Place}
use Rattle.model.specs.declared.calls.Place.TheVariants.{Hardware, Kernel}
use Rattle.model.specs.declared.calls.Answer.{Answer}
use Rattle.model.specs.declared.calls.Answer.TheVariants.{Raised, Masked, Arrived, Delivered, Held, Busy, Ended, WasStalled, WasAtLevel, Told}
use Rattle.listing.specs.declared.listed.ListedPlace.{ListedPlace}
use Rattle.listing.specs.declared.listed.ListedPlace.TheVariants.{Machine, Text}
use Rattle.listing.specs.declared.listed.Refusal.{Refusal}
use Rattle.listing.specs.declared.listed.TraceFault.{TraceFault}
use Rattle.listing.specs.Refusals.{refusal_of}
use Rattle.listing.specs.declared.listed.Listed.{Listed}
use Rattle.listing.specs.declared.listed.Listed.TheVariants.{Accepted, Answered, Restored}
use Rattle.listing.specs.declared.listed.ShortBuffer.{ShortBuffer}
use Rattle.listing.specs.Numbers.{written}

-- ---- the words

abbrev pub decimal : ℕ → List ℕ
decimal n = written 10 n

-- a set of lines by its number
abbrev pub hexadecimal : ℕ → List ℕ
hexadecimal n = written 16 n

abbrev pub bit : Bool → List ℕ
bit false = codes "0"
bit true = codes "1"

-- c for the hardware, h for the head, r for the root
abbrev pub place_letter : Place → ℕ
place_letter Hardware = 99
place_letter (Kernel Head) = 104
place_letter (Kernel Root) = 114

-- and t for the text
abbrev pub listed_letter : ListedPlace → ℕ
listed_letter (Machine p) = place_letter p
listed_letter Text = 116

abbrev pub refusal : ℕ → ℕ → List ℕ
refusal number letter = codes "! " ++ (decimal number ++ (codes " " ++ (letter ∷ [])))

-- ---- the table

-- what is listed of each answer of the machine
abbrev pub answer_text : Answer → List ℕ
answer_text (Raised New) = codes "new"
answer_text (Raised Merged) = codes "merged"
answer_text Masked = codes "ok"
answer_text (Arrived count set) = decimal count ++ (codes " " ++ hexadecimal set.bits)
answer_text (Delivered (Some line)) = decimal line
answer_text (Delivered None) = codes "none"
answer_text Held = codes "held"
answer_text Busy = codes "busy"
answer_text (Ended line) = decimal line
answer_text (WasStalled b) = bit b
answer_text (WasAtLevel code) = decimal code
answer_text (Told set) = hexadecimal set.bits

abbrev pub text : Listed → List ℕ
text Accepted = codes "ok"
text (Answered a) = answer_text a
text (Restored code) = decimal code

-- the words of a line: of an obeyed one, or of a refusal
abbrev pub words_of : Result Listed Refusal → List ℕ
words_of (Ok a) = text a
words_of (Err r) = refusal r.number (listed_letter r.place)

-- a line ends in a line feed
abbrev pub line_of : Result Listed Refusal → List ℕ
line_of r = words_of r ++ (10 ∷ [])

-- an obeyed line is listed as it is, and a refusal as one that it converts to
abbrev pub ListedAs : {F : Type 0} → (F → Refusal → Type 0) → Result Listed F → Result Listed Refusal → Type 0
ListedAs converts (Ok a) l = l ≡ Ok a
ListedAs converts (Err e) l = (r : Refusal) × converts e r × (l ≡ Err r)

-- of a refusal of a trace
abbrev pub refusal_text : TraceFault → List ℕ
refusal_text e = words_of (Err (refusal_of e))

-- what a line of a trace came to, as it is listed
abbrev pub as_listed : Result Listed TraceFault → Result Listed Refusal
as_listed (Ok a) = Ok a
as_listed (Err e) = Err (refusal_of e)

-- its words, and its line
abbrev pub words : Result Listed TraceFault → List ℕ
words r = words_of (as_listed r)

abbrev pub line : Result Listed TraceFault → List ℕ
line r = line_of (as_listed r)

-- ---- the buffer

-- How many bytes a buffer must have: the 20 of the longest line of a machine. A count of three digits, which no pump answers, may take one more.
abbrev pub answer_room : Answer → ℕ
answer_room (Raised r) = 20
answer_room Masked = 20
answer_room (Arrived count set) = cond (nat_le count 99) 20 21
answer_room (Delivered o) = 20
answer_room Held = 20
answer_room Busy = 20
answer_room (Ended n) = 20
answer_room (WasStalled b) = 20
answer_room (WasAtLevel n) = 20
answer_room (Told s) = 20

abbrev pub room_of : Result Listed Refusal → ℕ
room_of (Ok Accepted) = 20
room_of (Ok (Answered a)) = answer_room a
room_of (Ok (Restored code)) = 20
room_of (Err r) = 20

abbrev pub room : Result Listed TraceFault → ℕ
room r = room_of (as_listed r)

-- A line written at the start of a buffer: the answer counts its bytes, and those past it stay. A buffer without the room is refused and stays.
abbrev pub WritesLine : Result Listed Refusal → List ℕ → Result ℕ ShortBuffer → List ℕ → Type 0
WritesLine a xs (Ok n) ys = (room_of a ≤ length xs) × (n ≡ length (line_of a)) × (n ≤ room_of a) × (ys ≡ line_of a ++ drop n xs)
WritesLine a xs (Err e) ys = (length xs < room_of a) × (ys ≡ xs)

-- the same of a line whose refusal is one that converts
abbrev pub WritesAs : {F : Type 0} → (F → Refusal → Type 0) → Result Listed F → List ℕ → Result ℕ ShortBuffer → List ℕ → Type 0
WritesAs converts a xs w ys = (l : Result Listed Refusal) × ListedAs converts a l × WritesLine l xs w ys

-- and of what a line of a trace came to
abbrev pub Writes : Result Listed TraceFault → List ℕ → Result ℕ ShortBuffer → List ℕ → Type 0
Writes r xs w ys = WritesLine (as_listed r) xs w ys
