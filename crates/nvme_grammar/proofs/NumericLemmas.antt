-- For `numbers.rt` and other proofs: a line whose numbers do not fit the places of its keyword has no meaning.
use Rattle.std.proofs.Common.{
  ◌≡◌,
  ◌≢◌,
  ℕ,
  zero,
  suc,
  ◌^◌,
  ◌<◌,
  ◌≤◌,
  Bool,
  true,
  false,
  List,
  [],
  ◌∷◌,
  ◌++◌,
  length,
  map,
  Option,
  Some,
  None,
  refl,
  sym,
  ap,
  ◌∙◌,
  arith,
}
use Rattle.std.specs.Prelude.{◌&&◌, ◌==◌, nat_lt, nat_le, if◌then◌else◌, is_some, unwrap_or}
use Rattle.std.specs.List.{list_all}
use Rattle.std.proofs.Math.Nat.{pow-le-pow_right}
use Rattle.std.proofs.lemmas.Bool.{false≢true, ltb-false, le-ltb, and_parts}
use Rattle.nvme_event.specs.declared.event.FleetEvent.{FleetEvent}
use Rattle.script_text.specs.Front.{begins_number}
use Rattle.script_text.specs.Numbers.{number, below, number_at}
use Rattle.nvme_grammar.specs.Arity.{◌>>=◌}
use Rattle.nvme_grammar.specs.Reader.{Numbers, have_bits, place_bits, is_short, is_one}
use Rattle.nvme_grammar.specs.Events.{event_by}
use Rattle.nvme_grammar.specs.Keywords.{places_of, behind_of, sets_up}
use Rattle.nvme_grammar.specs.Line.{sentence_by, event_line}
use Rattle.nvme_grammar.specs.LineFaults.{suits, is_allowed_line}
use Rattle.nvme_grammar.specs.Requests.{bit_of, bit_at}
use Rattle.nvme_grammar.specs.declared.keyword.Keyword.{Keyword}
use Rattle.nvme_grammar.specs.declared.keyword.Keyword.TheVariants as keyword
use Rattle.nvme_grammar.specs.declared.place.Place.{Place}
use Rattle.nvme_grammar.specs.declared.place.Place.TheVariants.{Number, Iekey}
use Rattle.nvme_grammar.specs.Places.{operand_bits}
use Rattle.nvme_grammar.specs.declared.place.Behind.{Behind}
use Rattle.nvme_grammar.specs.declared.place.Behind.TheVariants as behind
use Rattle.nvme_grammar.proofs.TieLemmas.{fine, and_false}
use Rattle.nvme_grammar.proofs.TieKeywords.{keyword-fine}

-- another number of them
pub have_bits_other : (bits ns : List ℕ) → length ns ≢ length bits → have_bits bits ns ≡ false
have_bits_other [] [] h = absurd (h refl)
have_bits_other [] (n ∷ ns) h = refl
have_bits_other (b ∷ bits) [] h = refl
have_bits_other (b ∷ bits) (n ∷ ns) h =
    ap (λ t. nat_lt n (2 ^ b) && t) (have_bits_other bits ns (λ e. h (omega (arith, e)))) ∙ and_false _

-- a word by its number of at most 64 bits
some_same : {A : Type 0} (a b : A) → Some a ≡ Some b → a ≡ b
some_same a b e = ap (λ o. unwrap_or o a) e

is_the : (m n : ℕ) (t : Bool) → (if t then Some m else None) ≡ Some n → m ≡ n
is_the m n true e = some_same m n e
is_the m n false e = absurd (false≢true (ap is_some e))

some_if : (n : ℕ) (t : Bool) → is_some (if t then Some n else None) ≡ t
some_if n true = refl
some_if n false = refl

number-bits : (bits : ℕ) (w : List ℕ) (n : ℕ)
    → number_at 64 w ≡ Some n → is_some (number_at bits w) ≡ nat_lt n (2 ^ bits)
unfolding number_at
number-bits bits w n e = by (number w) e
  where
    by : (o : Option ℕ) → below (2 ^ 64) o ≡ Some n → is_some (below (2 ^ bits) o) ≡ nat_lt n (2 ^ bits)
    by None e = absurd (false≢true (ap is_some e))
    by (Some m) e = rw (is_the m n _ e) (some_if n _)

no_zero : (n : ℕ) → (suc (suc n) == 0) ≡ false
no_zero n = grind (arith)

no_one : (n : ℕ) → (suc (suc n) == 1) ≡ false
no_one n = grind (arith)

two_or_more : (n : ℕ) → nat_lt (suc (suc n)) 2 ≡ false
two_or_more n = le-ltb (suc (suc n)) 2 (omega arith)

pub two_bits : (n : ℕ) → is_some (bit_of n) ≡ nat_lt n 2
two_bits zero = refl
two_bits (suc zero) = refl
two_bits (suc (suc n)) = rw (no_zero n, no_one n, two_or_more n) refl

bit-bits : (w : List ℕ) (n : ℕ) → number_at 64 w ≡ Some n → is_some (bit_at w) ≡ nat_lt n (2 ^ 1)
unfolding number_at
bit-bits w n e = by (number w) e
  where
    in_byte : (t : Bool) → nat_lt n (2 ^ 8) ≡ t → is_some ((if t then Some n else None) >>= bit_of) ≡ nat_lt n (2 ^ 1)
    in_byte true small = two_bits n
    in_byte false large = sym (le-ltb n (2 ^ 1) (omega (arith, ltb-false n (2 ^ 8) large)))

    by : (o : Option ℕ) → below (2 ^ 64) o ≡ Some n → is_some (below (2 ^ 8) o >>= bit_of) ≡ nat_lt n (2 ^ 1)
    by None e = absurd (false≢true (ap is_some e))
    by (Some m) e = rw (is_the m n _ e) (in_byte (nat_lt n (2 ^ 8)) refl)

suits-bits : (p : Place) (before w : List ℕ) (n : ℕ) → is_short p ≡ true → number_at 64 w ≡ Some n
    → suits before p w ≡ nat_lt n (2 ^ place_bits p)
suits-bits (Number operand) before w n h e = number-bits (operand_bits operand) w n e
suits-bits Iekey before w n h e = bit-bits w n e
suits-bits p before w n h e = absurd (false≢true h)

-- a word that is not a number
pub none_of : {A : Type 0} (o : Option A) → is_some o ≡ false → o ≡ None
none_of None h = refl
none_of (Some x) h = absurd (false≢true (sym h))

too_large : (bits m : ℕ) → nat_le bits 64 ≡ true → nat_lt m (2 ^ 64) ≡ false → nat_lt m (2 ^ bits) ≡ false
too_large bits m short large =
    let few : bits ≤ 64 = grind (arith, short) in
    let past : 2 ^ bits ≤ 2 ^ 64 = pow-le-pow_right {n = 2} (omega arith) few in
    le-ltb m (2 ^ bits) (omega (arith, past, ltb-false m (2 ^ 64) large))

number-none : (bits : ℕ) (w : List ℕ) → nat_le bits 64 ≡ true → number_at 64 w ≡ None
    → is_some (number_at bits w) ≡ false
unfolding number_at
number-none bits w short e = by (number w) e
  where
    not_small : (m : ℕ) (t : Bool) → (if t then Some m else None) ≡ None → t ≡ false
    not_small m true e = absurd (false≢true (sym (ap is_some e)))
    not_small m false e = refl

    by : (o : Option ℕ) → below (2 ^ 64) o ≡ None → is_some (below (2 ^ bits) o) ≡ false
    by None e = refl
    by (Some m) e = some_if m _ ∙ too_large bits m short (not_small m _ e)

bit-none : (w : List ℕ) → number_at 64 w ≡ None → is_some (bit_at w) ≡ false
bit-none w e = ap (λ o. is_some (o >>= bit_of)) (none_of (number_at 8 w) (number-none 8 w refl e))

suits-none : (p : Place) (before w : List ℕ) → is_short p ≡ true → is_some (number_at 64 w) ≡ false
    → suits before p w ≡ false
suits-none (Number operand) before w h e = number-none (operand_bits operand) w h (none_of _ e)
suits-none Iekey before w h e = bit-none w (none_of _ e)
suits-none p before w h e = absurd (false≢true h)

either_unfit : (first numbers words : Bool) → (first && numbers) ≡ false → (numbers ≡ false → words ≡ false)
    → (first && words) ≡ false
either_unfit true numbers words bad rest = rest bad
either_unfit false numbers words bad rest = refl

-- only numbers
pub numbers-unfit : (t : Bool) (before : List ℕ) (ps : List Place) (ns : List ℕ) (ws : List (List ℕ))
    → list_all is_short ps ≡ true → Numbers ns ws []
    → have_bits (map place_bits ps) ns ≡ false → fine t before ps behind.Nothing ws ≡ false
numbers-unfit t before [] [] ws short h bad = absurd (false≢true (sym bad))
numbers-unfit t before [] (n ∷ ns) ws short (w, more, e, k, h) bad = rw e refl
numbers-unfit t before (p ∷ ps) [] ws short h bad = rw h refl
numbers-unfit t before (p ∷ ps) (n ∷ ns) ws short (w, more, e, k, h) bad =
    let parts = and_parts (is_short p) (list_all is_short ps) short in
    rw (e, suits-bits p before w n parts.0 k) (either_unfit _ _ _ bad (numbers-unfit t w ps ns more parts.1 h))

-- other words after them, if there are at least as many numbers as places before a word that is not a number
pub others-unfit : (t : Bool) (before : List ℕ) (ps : List Place) (ns : List ℕ) (ws rest : List (List ℕ))
    → list_all is_short ps ≡ true → Numbers ns ws rest
    → 0 < length rest → (length ns < length ps → begins_number rest ≡ false)
    → fine t before ps behind.Nothing ws ≡ false
others-unfit t before ps ns ws [] short h some all = absurd (omega (arith, some))
others-unfit t before [] [] ws (r ∷ rest) short h some all = rw h refl
others-unfit t before [] (n ∷ ns) ws (r ∷ rest) short (w, more, e, k, h) some all = rw e refl
others-unfit t before (p ∷ ps) [] ws (r ∷ rest) short h some all =
    rw (h, suits-none p before r (and_parts (is_short p) (list_all is_short ps) short).0 (all (omega arith))) refl
others-unfit t before (p ∷ ps) (n ∷ ns) ws (r ∷ rest) short (w, more, e, k, h) some all =
    rw e (ap (λ u. suits before p w && u) (others-unfit t w ps ns more (r ∷ rest)
    (and_parts (is_short p) (list_all is_short ps) short).1 h some (λ less. all (omega (arith, less)))) ∙ and_false _)

-- numbers before other places
pub front-unfit : (t : Bool) (before : List ℕ) (ps ds : List Place) (b : Behind) (ns : List ℕ) (ws rest : List (List ℕ))
    → list_all is_short ps ≡ true → Numbers ns ws rest
    → length ns ≤ length ps → (length ns < length ps → begins_number rest ≡ false)
    → have_bits (map place_bits ps) ns ≡ false → fine t before (ps ++ ds) b ws ≡ false
front-unfit t before [] ds b [] ws rest short h few all bad = absurd (false≢true (sym bad))
front-unfit t before [] ds b (n ∷ ns) ws rest short h few all bad = absurd (omega (arith, few))
front-unfit t before (p ∷ ps) ds b [] ws [] short h few all bad = rw h refl
front-unfit t before (p ∷ ps) ds b [] ws (r ∷ rest) short h few all bad =
    rw (h, suits-none p before r (and_parts (is_short p) (list_all is_short ps) short).0 (all (omega arith))) refl
front-unfit t before (p ∷ ps) ds b (n ∷ ns) ws rest short (w, more, e, k, h) few all bad =
    let parts = and_parts (is_short p) (list_all is_short ps) short in
    let fewer : length ns ≤ length ps = omega (arith, few) in
    rw (e, suits-bits p before w n parts.0 k)
    (either_unfit _ _ _ bad (front-unfit t w ps ds b ns more rest parts.1 h fewer (λ less. all (omega (arith, less)))))

-- the words after the numbers
pub behind-unfit : (t : Bool) (before : List ℕ) (ps ds : List Place) (b : Behind) (ns : List ℕ)
    (ws rest : List (List ℕ)) → Numbers ns ws rest
    → length ns ≡ length ps → ((last : List ℕ) → fine t last ds b rest ≡ false) → fine t before (ps ++ ds) b ws ≡ false
behind-unfit t before [] ds b [] ws rest h same bad = rw h (bad before)
behind-unfit t before [] ds b (n ∷ ns) ws rest h same bad = absurd (omega (arith, same))
behind-unfit t before (p ∷ ps) ds b [] ws rest h same bad = absurd (omega (arith, same))
behind-unfit t before (p ∷ ps) ds b (n ∷ ns) ws rest (w, more, e, k, h) same bad =
    rw e
    (ap (λ u. suits before p w && u) (behind-unfit t w ps ds b ns more rest h (omega (arith, same)) bad) ∙ and_false _)

pub one-unfit : (t : Bool) (before : List ℕ) (d : Place) (ws : List (List ℕ))
    → is_one ws ≡ false → fine t before (d ∷ []) behind.Nothing ws ≡ false
one-unfit t before d [] h = refl
one-unfit t before d (w ∷ []) h = absurd (false≢true (sym h))
one-unfit t before d (w ∷ v ∷ ws) h = and_false _

-- the line of an event whose words do not fit its places
pub event-sentence : (k : Keyword) (ws : List (List ℕ))
    → sets_up k ≡ false → sentence_by k ws ≡ event_line (event_by k ws)
event-sentence keyword.Controller ws h = absurd (false≢true (sym h))
event-sentence keyword.Namespace ws h = absurd (false≢true (sym h))
event-sentence keyword.Attached ws h = absurd (false≢true (sym h))
event-sentence keyword.Start ws h = absurd (false≢true (sym h))
event-sentence k ws h = refl

pub unfit-none : (k : Keyword) (ws : List (List ℕ))
    → sets_up k ≡ false → fine true [] (places_of k) (behind_of k) ws ≡ false → sentence_by k ws ≡ None
unfit-none k ws event bad =
    event-sentence k ws event ∙ by (event_by k ws)
    (ap (is_allowed_line true) (sym (event-sentence k ws event)) ∙ sym (keyword-fine true [] k ws) ∙ rw event bad)
  where
    by : (o : Option FleetEvent) → is_allowed_line true (event_line o) ≡ false → event_line o ≡ None
    by None h = refl
    by (Some e) h = absurd (false≢true (sym h))
