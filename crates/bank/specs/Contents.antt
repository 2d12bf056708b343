-- What the registers of a controller hold, and what they make it tell.
use Rattle.std.specs.Prelude.{ℕ, Bool, cond}
use Rattle.lines.specs.Sets.{has, union, common, minus, only}
use Rattle.controller.specs.View.{View}

-- three sets of lines: interrupt requests, interrupt mask, in service
pub record Contents : Type 0 where
  pub pending : ℕ
  pub masked : ℕ
  pub in_service : ℕ

-- the set of all 64 lines
abbrev pub all_lines : ℕ
all_lines = 0xffff_ffff_ffff_ffff

-- as the registers are made
abbrev pub clear : Contents
clear = record { pending = 0; masked = 0; in_service = 0 }

-- the line n is latched, so that it pends; a number that is no line changes nothing
abbrev pub latched : ℕ → Contents → ℕ → Contents
latched lines c n =
    cond (has lines n) (record { pending = union c.pending (only n); masked = c.masked; in_service = c.in_service }) c

-- of the set written to the mask, the lines are kept
abbrev pub mask_written : ℕ → Contents → ℕ → Contents
mask_written lines c s = record { pending = c.pending; masked = common s lines; in_service = c.in_service }

-- the line n is acknowledged: it goes from pending into service; a number that is no line changes nothing
abbrev pub acknowledged : ℕ → Contents → ℕ → Contents
acknowledged lines c n =
    cond (has lines n) (record { pending = minus c.pending (only n); masked = c.masked; in_service = union c.in_service (only n) }) c

-- the line n leaves service
abbrev pub retired : Contents → ℕ → Contents
retired c n = record { pending = c.pending; masked = c.masked; in_service = minus c.in_service (only n) }

-- what a controller with these lines, this order and these contents tells: none of its lines is blocked
abbrev pub bank_view : ℕ → (ℕ → ℕ → Bool) → Contents → View
bank_view lines above c =
    record { lines = lines; above = above; pending = c.pending; masked = c.masked; blocked = 0; in_service = c.in_service }
