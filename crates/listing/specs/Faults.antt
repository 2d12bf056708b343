-- The number of the refusal of a buffer.
use Rattle.std.specs.Prelude.{ℕ}

-- 10: a buffer of too few bytes
abbrev pub short_buffer_number : ℕ
short_buffer_number = 10
