-- Texts that are assembled on a page of limited length.
use Rattle.std.specs.Prelude.{◌≡◌, ◌<◌, ◌+◌, ◌-◌, ◌^◌, ℕ, false, List, [], ◌++◌, length, Result, Ok, Err}
use Rattle.std.specs.Fmt.{digits, padded_integral, format_spec}

-- the page has this text after what it had; or the text did not fit
abbrev pub Adds : {E : Type 0} → ℕ → Result (Unit {0}) E → List ℕ → List ℕ → List ℕ → Type 0
Adds room (Ok done) old piece new = new ≡ old ++ piece
Adds room (Err fault) old piece new = room < length old + length piece

-- the most bytes of a text
unfoldable pub most_text : ℕ
most_text = 262240

-- a number in `width` hexadecimal digits, in lower case
abbrev pub in_hex : ℕ → ℕ → List ℕ
in_hex width n = padded_integral (format_spec 32 0 4 width (2 ^ 64 - 1)) false [] (digits 16 false n)
