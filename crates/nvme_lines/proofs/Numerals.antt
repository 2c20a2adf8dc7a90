-- For `ReadBack`: numbers that are formatted are parsed as the same.
use Rattle.std.proofs.Common.{◌≡◌, ◌∙◌, ℕ, ◌^◌, ◌<◌, ◌≤◌, true, false, List, [], ◌∷◌, ◌++◌, Some, refl, sym, ap, arith}
use Rattle.std.specs.Prelude.{codes}
use Rattle.std.specs.Char.{digit_value}
use Rattle.std.specs.Fmt.{decimal, digits}
use Rattle.std.specs.List.{list_all}
use Rattle.std.specs.Str.Parse.{AllDigits, IsNumeral, digits_value}
use Rattle.std.proofs.lemmas.Bool.{lt-ltb}
use Rattle.std.proofs.lemmas.Fmt.{decimal_is_IsNumeral, digits_is_IsNumeral}
use Rattle.script_text.specs.Numbers.{is_digit, number_at}
use Rattle.script_text.specs.Words.{is_visible}
use Rattle.script_text.proofs.FrontLemmas.{decimal-read}
use Rattle.script_text.proofs.NumberLemmas.{below-fits}
use Rattle.nvme_lines.proofs.Wording.{IsWord}

all-digits : (base : ℕ) (ds : List ℕ) → AllDigits base ds → list_all (is_digit base) ds ≡ true
all-digits base [] h = refl
all-digits base (d ∷ ds) h = rw (lt-ltb (digit_value d) base h.0, all-digits base ds h.1) refl

digit-visible : (d : ℕ) → digit_value d < 16 → is_visible d ≡ true
digit-visible d h = grind (arith)

all-visible : (base : ℕ) (ds : List ℕ) → base ≤ 16 → AllDigits base ds → list_all is_visible ds ≡ true
all-visible base [] low h = refl
all-visible base (d ∷ ds) low h = rw (digit-visible d (omega (arith, low, h.0)), all-visible base ds low h.1) refl

pub decimal-word : (n : ℕ) → n < 2 ^ 64 → IsWord (decimal n)
decimal-word n small =
    let numeral = (decimal_is_IsNumeral n small).0 in
    record { some = numeral.0; visible = all-visible 10 (decimal n) (omega arith) numeral.1 }

pub number-decimal : (bits n : ℕ) → n < 2 ^ 64 → n < 2 ^ bits → number_at bits (decimal n) ≡ Some n
number-decimal bits n small fits =
    let read = decimal_is_IsNumeral n small in
    decimal-read bits (decimal n) read.0.0 (all-digits 10 (decimal n) read.0.1) (rw read.1 fits) ∙ ap Some read.1

hex-read : (h : ℕ) → h < 2 ^ 128 → IsNumeral 16 (digits 16 false h) × (digits_value 16 (digits 16 false h) ≡ h)
hex-read h small = digits_is_IsNumeral 16 false (omega arith) (omega arith) h (omega arith)

pub host-word : (h : ℕ) → h < 2 ^ 128 → IsWord (codes "0x" ++ digits 16 false h)
host-word h small =
    record { some = omega arith; visible = all-visible 16 (digits 16 false h) (omega arith) (hex-read h small).0.1 }

pub number-host : (h : ℕ) → h < 2 ^ 128 → number_at 128 (codes "0x" ++ digits 16 false h) ≡ Some h
unfolding number_at
number-host h small =
    let read = hex-read h small in
    sym (below-fits (2 ^ 128) 16 (digits 16 false h) read.0.0 (all-digits 16 (digits 16 false h) read.0.1)
    (rw read.1 small))
    ∙ ap Some read.1
