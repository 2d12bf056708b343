-- The head kernel's policy: priority classes.
use Rattle.std.specs.Prelude.{ℕ, ◌+◌, ◌/◌, cond, Some, None, Option, nat_lt}
use Rattle.levels.specs.declared.Class.{Class}

-- line n has class 1 + n / 16
abbrev pub head_class : ℕ → Class
head_class n = record { 0 = 1 + n / 16 }

-- the lowest class, which no line has
abbrev pub head_lowest : Class
head_lowest = record { 0 = 0 }

-- the classes 0 to 4 can be set; the code of a class is its number
abbrev pub head_code : Class → Option ℕ
head_code l = cond (nat_lt l.0 5) (Some l.0) None

-- the class that each code stands for
abbrev pub head_named : ℕ → Option Class
head_named c = cond (nat_lt c 5) (Some (record { 0 = c })) None
