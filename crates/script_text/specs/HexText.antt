-- Bytes as hexadecimal digits, without the zeros at the end, as transcripts have them.
use Rattle.std.specs.Prelude.{ℕ, List, [], ◌∷◌, false, ◌/◌, ◌%◌, ◌==◌, codes, if◌then◌else◌}
use Rattle.std.specs.Fmt.{digit_glyph}
use Rattle.std.specs.List.{flat_map, list_all}

-- the two digits of a byte
abbrev pub high_digit : ℕ → ℕ
high_digit b = digit_glyph false (b / 16)

abbrev pub low_digit : ℕ → ℕ
low_digit b = digit_glyph false (b % 16)

-- a byte as two hexadecimal digits in lower case
abbrev pub hex_pair : ℕ → List ℕ
hex_pair b = high_digit b ∷ low_digit b ∷ []

-- a list up to its last element that is not zero
abbrev pub without_trailing_zeros : List ℕ → List ℕ
without_trailing_zeros [] = []
without_trailing_zeros (b ∷ bs) = if list_all (λ x. x == 0) (b ∷ bs) then [] else b ∷ without_trailing_zeros bs

-- bytes in hexadecimal, or a dash if there are none
abbrev pub hex_or_dash : List ℕ → List ℕ
hex_or_dash [] = codes "-"
hex_or_dash (b ∷ bs) = flat_map hex_pair (b ∷ bs)
