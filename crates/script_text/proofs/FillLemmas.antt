-- For the answers of `filled` and `is_byte`: two digits decode to one byte.
use Rattle.std.proofs.Common.{
  ◌≡◌,
  ℕ,
  List,
  [],
  ◌∷◌,
  length,
  Option,
  Some,
  None,
  Ok,
  Err,
  refl,
  sym,
  ap,
  ◌∙◌,
  arith,
  inl,
  inr,
}
use Rattle.std.specs.Prelude.{Result}
use Rattle.std.proofs.lemmas.Bool.{cases_eq}
use Rattle.hex.specs.Hex.{decode_of, decode_sized}
use Rattle.hex.specs.declared.error.FromHexError.{FromHexError}
use Rattle.hex.proofs.HexLemmas.{decode_of-ok, decode_sized-ok, decode_sized-twice}
use Rattle.script_text.specs.Data.{fill_data}

fill_data-none : (len : Option ℕ) (read : Result (List ℕ) FromHexError) → ((b : ℕ) → read ≡ Ok (b ∷ []) → ⊥)
    → fill_data len read ≡ None
fill_data-none (Some n) (Ok (b ∷ [])) h = absurd (h b refl)
fill_data-none None (Ok (b ∷ [])) h = absurd (h b refl)
fill_data-none (Some n) (Ok []) h = refl
fill_data-none None (Ok []) h = refl
fill_data-none (Some n) (Ok (b ∷ c ∷ bs)) h = refl
fill_data-none None (Ok (b ∷ c ∷ bs)) h = refl
fill_data-none (Some n) (Err e) h = refl
fill_data-none None (Err e) h = refl

pub fill_data-sized : (len : Option ℕ) (ds : List ℕ) → fill_data len (decode_of ds) ≡ fill_data len (decode_sized ds 1)
fill_data-sized len ds = elim (cases_eq (length ds) 2) [
  | inl two ↦ ap (fill_data len) (sym (decode_sized-twice ds 1 two))
  | inr other ↦ fill_data-none len (decode_of ds) (λ b e. other (omega (arith, (decode_of-ok ds (b ∷ []) e).2)))
      ∙ sym (fill_data-none len (decode_sized ds 1) (λ b e. other (decode_sized-ok ds 1 (b ∷ []) e)))
]
