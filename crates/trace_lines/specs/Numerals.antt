-- Numbers and sets as a trace writes them.
use Rattle.std.specs.Prelude.{ℕ, ◌+◌, ◌-◌, ◌*◌, cond, ◌&&◌, List, [], ◌∷◌, length, Some, None, Option, nat_le, nat_lt}

-- the value of a digit, '0' to '9' and 'a' to 'f'; 16 for any other byte
abbrev pub digit_value : ℕ → ℕ
digit_value c = cond (nat_le 48 c && nat_le c 57) (c - 48) (cond (nat_le 97 c && nat_le c 102) (c - 87) 16)

-- the value of a digit of a base; none of any other byte
abbrev pub digit_of : ℕ → ℕ → Option ℕ
digit_of base c = cond (nat_lt (digit_value c) base) (Some (digit_value c)) None

-- the number that digits of a base write after the number n; none where a byte is no digit
abbrev pub number_after : ℕ → ℕ → List ℕ → Option ℕ
number_after base n [] = Some n
number_after base n (c ∷ s) = cond (nat_lt (digit_value c) base) (number_after base (n * base + digit_value c) s) None

-- the number that a text of one to `most` digits of a base writes; none of any other text
abbrev pub numeral : ℕ → ℕ → List ℕ → Option ℕ
numeral base most s = cond (nat_lt 0 (length s) && nat_le (length s) most) (number_after base 0 s) None
