-- For the answers of `foreign_byte` and `lines_begin`: bytes that a line may not have.
use Rattle.std.proofs.Common.{
  ◌≡◌,
  ℕ,
  ◌≢◌,
  suc,
  ◌+◌,
  Bool,
  true,
  false,
  List,
  [],
  ◌∷◌,
  length,
  refl,
  arith,
  Option,
  None,
  Some,
  ◌≤◌,
  Bor,
}
use Rattle.std.specs.Prelude.{◌&&◌, if◌then◌else◌}
use Rattle.std.specs.List.{prefix_len, list_all}

-- all elements pass a test if the prefix that passes is the whole list
pub all-pass : {X : Type 0} (p : X → Bool) (xs : List X) → prefix_len p xs ≡ length xs → list_all p xs ≡ true
all-pass p [] e = refl
all-pass p (x ∷ xs) e = by (p x) e (all-pass p xs)
  where
    by : (t : Bool) → (if t then 1 + prefix_len p xs else 0) ≡ suc (length xs)
        → (prefix_len p xs ≡ length xs → list_all p xs ≡ true)
        → (t && list_all p xs) ≡ true
    by true e rest = rest (omega (arith, e))
    by false e rest = absurd (omega (arith, e))

pub not-all-pass : {X : Type 0} (p : X → Bool) (xs : List X) → prefix_len p xs ≢ length xs → list_all p xs ≡ false
not-all-pass p [] e = absurd (e refl)
not-all-pass p (x ∷ xs) e = by (p x) e (not-all-pass p xs)
  where
    by : (t : Bool) → ((if t then 1 + prefix_len p xs else 0) ≢ suc (length xs))
        → (prefix_len p xs ≢ length xs → list_all p xs ≡ false)
        → (t && list_all p xs) ≡ false
    by true e rest = rest (λ f. e (omega (arith, f)))
    by false e rest = refl

-- the rest of a text is at most as long as the text
abbrev pub IsWithin : Option (Bor (List ℕ)) → ℕ → Type 0
IsWithin None n = Unit {0}
IsWithin (Some lines) n = length lines.now ≤ n

abbrev pub left_length : Option (Bor (List ℕ)) → ℕ
left_length None = 0
left_length (Some lines) = length lines.now + 1
