-- For the answers of `numeral_of`: a prefix of digits denotes at most the number of all, so a number that is too large
-- stays too large.
use Rattle.std.proofs.Common.{
  ◌≡◌,
  ℕ,
  ◌+◌,
  ◌*◌,
  ◌<◌,
  ◌≤◌,
  Bool,
  true,
  false,
  List,
  [],
  ◌∷◌,
  ◌++◌,
  length,
  take,
  drop,
  Some,
  None,
  if◌then◌else◌,
  sym,
  refl,
  ap,
  ◌∙◌,
  arith,
  take-append-drop,
}
use Rattle.std.specs.Char.{digit_value}
use Rattle.std.specs.Str.Parse.{digits_value, digits_value_after}
use Rattle.std.specs.List.{list_all}
use Rattle.std.proofs.Math.Nat.{le-mul_of_pos_right}
use Rattle.std.proofs.lemmas.Bool.{le-ltb, lt-ltb}
use Rattle.script_text.specs.Numbers.{is_digit, numeral, below}

grows : (base n : ℕ) (ds : List ℕ) → 1 ≤ base → n ≤ digits_value_after base n ds
grows base n [] positive = omega arith
grows base n (d ∷ ds) positive =
    let scaled : n ≤ n * base = le-mul_of_pos_right n positive in
    omega (arith, grows base (n * base + digit_value d) ds positive)

after-append : (base n : ℕ) (xs ys : List ℕ)
    → digits_value_after base n (xs ++ ys) ≡ digits_value_after base (digits_value_after base n xs) ys
after-append base n [] ys = refl
after-append base n (x ∷ xs) ys = after-append base (n * base + digit_value x) xs ys

pub digits_value-take-le : (base : ℕ) (ds : List ℕ) (i : ℕ)
    → 1 ≤ base → digits_value base (take i ds) ≤ digits_value base ds
digits_value-take-le base ds i positive =
    rw (ap (digits_value base) (sym (take-append-drop i ds)) ∙ after-append base 0 (take i ds) (drop i ds))
    (grows base _ (drop i ds) positive)

pub below-too_large : (limit base : ℕ) (ds : List ℕ)
    → limit ≤ digits_value base ds → below limit (numeral base ds) ≡ None
below-too_large limit base [] large = refl
below-too_large limit base (d ∷ ds) large = by (list_all (is_digit base) (d ∷ ds))
  where
    by : (t : Bool) → below limit (if t then Some (digits_value base (d ∷ ds)) else None) ≡ None
    by true = ap (λ t. if t then Some (digits_value base (d ∷ ds)) else None) (le-ltb _ _ large)
    by false = refl

pub below-fits : (limit base : ℕ) (ds : List ℕ) → 1 ≤ length ds → list_all (is_digit base) ds ≡ true
    → digits_value base ds < limit → Some (digits_value base ds) ≡ below limit (numeral base ds)
below-fits limit base [] some digits small = absurd (omega arith)
below-fits limit base (d ∷ ds) some digits small = rw (digits, lt-ltb _ _ small) refl
