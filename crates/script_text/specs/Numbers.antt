-- The numbers of a script: decimal, or `0x` and hexadecimal digits of either case.
use Rattle.std.specs.Prelude.{
  ◌^◌,
  ℕ,
  nat_lt,
  nat_eq,
  codes,
  drop,
  Bool,
  List,
  [],
  ◌∷◌,
  Option,
  Some,
  None,
  if◌then◌else◌,
}
use Rattle.std.specs.Char.{digit_value}
use Rattle.std.specs.Str.Parse.{digits_value}
use Rattle.std.specs.List.{list_all, starts_with}

-- a character that is a digit of a base
abbrev pub is_digit : ℕ → ℕ → Bool
is_digit base c = nat_lt (digit_value c) base

-- the number of one or more digits of a base
abbrev pub numeral : ℕ → List ℕ → Option ℕ
numeral base [] = None
numeral base (c ∷ cs) = if list_all (is_digit base) (c ∷ cs) then Some (digits_value base (c ∷ cs)) else None

-- the number of a word
abbrev pub number : List ℕ → Option ℕ
number word = if starts_with nat_eq word (codes "0x") then numeral 16 (drop 2 word) else numeral 10 word

-- a number below a limit
abbrev pub below : ℕ → Option ℕ → Option ℕ
below limit None = None
below limit (Some n) = if nat_lt n limit then Some n else None

-- the number of a word, if it fits `bits` bits
unfoldable pub number_at : ℕ → List ℕ → Option ℕ
number_at bits word = below (2 ^ bits) (number word)
