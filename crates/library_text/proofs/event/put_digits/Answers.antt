use Rattle.std.proofs.Common.{
  rules,
  ◌≡◌,
  ◌+◌,
  ◌*◌,
  ◌-◌,
  ◌≤◌,
  ◌<◌,
  ◌++◌,
  ◌∷◌,
  ◌∙◌,
  ap,
  refl,
  sym,
  [],
  true,
  false,
  nat_lt,
  length,
  drop,
  slice_set,
  arith,
}
use Rattle.std.proofs.lemmas.Bool.{ltb-false, ltb-true}
use Rattle.std.specs.List.{flat_map}
use borrow.Rule.Slice.PartMut.{put_mid}
use Rattle.script_text.specs.HexText.{hex_pair}
use Rattle.library_text.proofs.PuttingLemmas.{length-pairs, line-length, line-put-at, puts-no, puts-ok}
use Rattle.library_text.proofs.event.put_digits.Goals as goal

pub returns-then-not-has_room : goal.returns-then-not-has_room
returns-then-not-has_room c =
    let front = c.args.front.now in
    let hex = flat_map hex_pair c.args.bytes.now in
    let line = c.args.line.now in
    let none : nat_lt (length front + 2 * length c.args.bytes.now) (length line) ≡ false = search rules in
    let lacks : length line ≤ length front + 2 * length c.args.bytes.now = ltb-false _ _ none in
    let long =
    line-length front hex (length front) (2 * length c.args.bytes.now) refl (length-pairs c.args.bytes.now) in
    puts-no (front ++ hex ++ 10 ∷ []) line (omega (arith, lacks, long))

pub returns : goal.returns
returns c =
    let front = c.args.front.now in
    let hex = flat_map hex_pair c.args.bytes.now in
    let line = c.args.line.now in
    let n = length front in
    let b = 2 * length c.args.bytes.now in
    let roomy : nat_lt (n + b) (length line) ≡ true = search rules in
    let below : n + b < length line = ltb-true _ _ roomy in
    let wide : length hex ≡ n + b - n = length-pairs c.args.bytes.now ∙ omega arith in
    let k-is : n + b - n ≡ b = omega arith in
    let within : n + (n + b - n) < length line = omega (arith, below, k-is) in
    let long = line-length front hex n (n + b - n) refl wide in
    let ends : n + b + 1 ≡ n + (n + b - n) + 1 = omega (arith, k-is) in
    let put : slice_set (put_mid n (n + b - n) (front ++ drop n line) hex) (n + b) 10 ≡ (front ++ hex ++ 10 ∷ [])
    ++ drop (length (front ++ hex ++ 10 ∷ [])) line =
    rw long (line-put-at front hex line n (n + b - n) refl wide within (n + b) (omega (arith, k-is))
    ∙ ap (λ m. (front ++ hex ++ 10 ∷ []) ++ drop m line) ends) in
    puts-ok (front ++ hex ++ 10 ∷ []) line _ (n + b + 1) (omega (arith, below, long, k-is)) (omega (arith, long, k-is))
    (rw (c.copy_from_slice.ensures.after, c.encode_into.ensures) put)
