-- Numbers as a listing writes them.
use Rattle.std.specs.Prelude.{ℕ, ◌+◌, cond, List, [], ◌∷◌, map, ◌==◌, nat_lt}
use Rattle.std.specs.Int.Digits.{digits_of}

-- the character of a digit: '0' to '9', then 'a' to 'f'
abbrev pub digit_letter : ℕ → ℕ
digit_letter d = cond (nat_lt d 10) (48 + d) (87 + d)

-- a number in a base, the highest digit first and no zero before it; 0 is one digit
unfoldable pub written : ℕ → ℕ → List ℕ
written base n = cond (n == 0) (48 ∷ []) (map digit_letter (digits_of base n))
