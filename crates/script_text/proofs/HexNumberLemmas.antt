-- For the answers of `hex_number.rt`: numbers in hexadecimal, by their last digit.
use Rattle.std.proofs.Common.{
  ◌≡◌,
  ◌∙◌,
  ℕ,
  zero,
  suc,
  ◌+◌,
  ◌-◌,
  ◌/◌,
  ◌%◌,
  ◌^◌,
  ◌<◌,
  ◌≤◌,
  ◌⊎◌,
  Bool,
  true,
  false,
  cond,
  ltb,
  List,
  [],
  ◌∷◌,
  ◌++◌,
  length,
  replicate,
  refl,
  sym,
  ap,
  subst,
  append_assoc,
  append-nil,
  length-append,
  arith,
  inl,
  inr,
  ⊎_elim,
  ltb-true,
  ltb-false,
  eq-eqb,
  ne_eqb,
}
use Rattle.std.specs.Fmt.{digits, digits_onto, digit_glyph, padded_integral, format_spec, char_count}
use Rattle.std.proofs.lemmas.Fmt.{hex_one_digit}
use Rattle.std.proofs.lemmas.List.{replicate_more}
use Rattle.script_text.specs.Pages.{in_hex}

order : (n m : ℕ) → (n < m) ⊎ (m ≤ n)
order n m = by (ltb n m) refl
  where
    by : (t : Bool) → ltb n m ≡ t → (n < m) ⊎ (m ≤ n)
    by true e = inl (ltb-true n m e)
    by false e = inr (ltb-false n m e)

abbrev last_glyph : ℕ → ℕ
last_glyph n = digit_glyph false (n % 16)

abbrev onto : ℕ → ℕ → List ℕ → List ℕ
onto k n acc = digits_onto k 16 false n acc

spelled : (n : ℕ) → onto 64 n [] ≡ digits 16 false n
unfolding digits
spelled n = refl

onto_last : (k n : ℕ) (acc : List ℕ) → n < 16 → onto (suc k) n acc ≡ last_glyph n ∷ acc
onto_last k n acc few =
    ap (λ (t : Bool). cond t (last_glyph n ∷ acc) (onto k (n / 16) (last_glyph n ∷ acc)))
    (eq-eqb (n / 16) 0 (omega arith))

onto_next : (k n : ℕ) (acc : List ℕ) → 16 ≤ n → onto (suc k) n acc ≡ onto k (n / 16) (last_glyph n ∷ acc)
onto_next k n acc many =
    ap (λ (t : Bool). cond t (last_glyph n ∷ acc) (onto k (n / 16) (last_glyph n ∷ acc)))
    (ne_eqb (n / 16) 0 (λ e. omega arith))

onto-append : (k n : ℕ) (acc : List ℕ) → onto k n acc ≡ onto k n [] ++ acc
onto-append zero n acc = refl
onto-append (suc k) n acc = ⊎_elim
    (λ few. onto_last k n acc few ∙ ap (λ x. x ++ acc) (sym (onto_last k n [] few)))
    (λ many. onto_next k n acc many ∙ onto-append k (n / 16) (last_glyph n ∷ acc)
    ∙ sym (append_assoc (onto k (n / 16) []) (last_glyph n ∷ []) acc)
    ∙ ap (λ x. x ++ acc) (sym (onto_next k n [] many ∙ onto-append k (n / 16) (last_glyph n ∷ []))))
    (order n 16)

-- any limit on the number of digits gives the same text, if the number fits it
onto_enough : (j k n : ℕ) (acc : List ℕ) → n < 16 ^ suc j → n < 16 ^ suc k → onto (suc j) n acc ≡ onto (suc k) n acc
onto_enough zero k n acc p q = onto_last zero n acc (omega arith) ∙ sym (onto_last k n acc (omega arith))
onto_enough (suc j) zero n acc p q = onto_last (suc j) n acc (omega arith) ∙ sym (onto_last zero n acc (omega arith))
onto_enough (suc j) (suc k) n acc p q = ⊎_elim
    (λ few. onto_last (suc j) n acc few ∙ sym (onto_last (suc k) n acc few))
    (λ many. onto_next (suc j) n acc many ∙ onto_enough j k (n / 16) (last_glyph n ∷ acc) (omega arith) (omega arith)
    ∙ sym (onto_next (suc k) n acc many))
    (order n 16)

pub digits_of_few : (n : ℕ) → n < 16 → digits 16 false n ≡ digit_glyph false n ∷ []
digits_of_few n few = hex_one_digit false n few

pub digits_by_steps : (n : ℕ)
    → 16 ≤ n → n < 2 ^ 128 → digits 16 false n ≡ digits 16 false (n / 16) ++ (digit_glyph false (n % 16) ∷ [])
digits_by_steps n many small =
    sym (spelled n) ∙ onto_next 63 n [] many
    ∙ onto_enough 62 63 (n / 16) (last_glyph n ∷ []) (omega arith) (omega arith)
    ∙ onto-append 64 (n / 16) (last_glyph n ∷ [])
    ∙ ap (λ x. x ++ (last_glyph n ∷ [])) (spelled (n / 16))

in_hex_is : (w n : ℕ) → in_hex w n ≡ replicate (w - length (digits 16 false n)) 48 ++ digits 16 false n
unfolding padded_integral char_count
in_hex_is w n =
    let zeros : w - length (digits 16 false n) - 0 - 0 ≡ w - length (digits 16 false n) = omega arith in
    simp append-nil (ap (λ k. replicate k 48 ++ digits 16 false n) zeros)

zeros : (k : ℕ) → k ≡ 0 → digits 16 false k ≡ 48 ∷ []
zeros k e = digits_of_few k (omega arith) ∙ ap (λ i. digit_glyph false i ∷ []) e

pub in_hex_of_one : (w n : ℕ) → w ≡ 1 → n < 16 → in_hex w n ≡ digit_glyph false n ∷ []
in_hex_of_one w n one few =
    let none : w - 1 ≡ 0 = omega arith in
    in_hex_is w n ∙ rw (digits_of_few n few, none) refl

in_hex_of_few : (w n : ℕ) → 1 < w → n < 16 → in_hex w n ≡ in_hex (w - 1) (n / 16) ++ (digit_glyph false (n % 16) ∷ [])
in_hex_of_few w n many few =
    let front : n / 16 ≡ 0 = omega arith in
    let last : n % 16 ≡ n = omega arith in
    let wide : w - 1 ≡ w - 1 - 1 + 1 = omega arith in
    in_hex_is w n ∙ ap (λ ds. replicate (w - length ds) 48 ++ ds) (digits_of_few n few)
    ∙ ap (λ k. replicate k 48 ++ digit_glyph false n ∷ []) wide
    ∙ ap (λ x. x ++ digit_glyph false n ∷ []) (sym (replicate_more (w - 1 - 1) 48)
    ∙ ap (λ ds. replicate (w - 1 - length ds) 48 ++ ds) (sym (zeros (n / 16) front))
    ∙ sym (in_hex_is (w - 1) (n / 16)))
    ∙ ap (λ k. in_hex (w - 1) (n / 16) ++ digit_glyph false k ∷ []) (sym last)

in_hex_of_many : (w n : ℕ)
    → 1 < w → 16 ≤ n → n < 2 ^ 64 → in_hex w n ≡ in_hex (w - 1) (n / 16) ++ (digit_glyph false (n % 16) ∷ [])
in_hex_of_many w n wide many small =
    let front = digits 16 false (n / 16) in
    let last = digit_glyph false (n % 16) ∷ [] in
    let count : w - length (front ++ last) ≡ w - 1 - length front = omega (arith, length-append front last) in
    in_hex_is w n ∙ ap (λ ds. replicate (w - length ds) 48 ++ ds) (digits_by_steps n many (omega (arith, small)))
    ∙ ap (λ k. replicate k 48 ++ (front ++ last)) count
    ∙ sym (append_assoc (replicate (w - 1 - length front) 48) front last)
    ∙ ap (λ x. x ++ last) (sym (in_hex_is (w - 1) (n / 16)))

pub in_hex_by_steps : (w n : ℕ)
    → 1 < w → n < 2 ^ 64 → in_hex w n ≡ in_hex (w - 1) (n / 16) ++ (digit_glyph false (n % 16) ∷ [])
in_hex_by_steps w n wide small =
    ⊎_elim (λ few. in_hex_of_few w n wide few) (λ many. in_hex_of_many w n wide many small) (order n 16)

pub one_digit : (w n : ℕ) → w ≡ 1 → n < 16 ^ w → n < 16
one_digit w n one fits = subst (λ k. n < 16 ^ k) one fits

pub front_fits : (w n : ℕ) → 0 < w → n < 16 ^ w → n / 16 < 16 ^ (w - 1)
front_fits zero n some fits = absurd (omega arith)
front_fits (suc w) n some fits =
    let same : suc w - 1 ≡ w = omega arith in
    rw same (omega arith)
