-- For the answer of `identifiers_behind`: the numbers of words, one after the other.
use Rattle.std.proofs.Common.{
  ◌≡◌,
  ℕ,
  ◌+◌,
  ◌<◌,
  Bool,
  true,
  false,
  List,
  [],
  ◌∷◌,
  ◌++◌,
  length,
  take,
  slice_set,
  Option,
  Some,
  None,
  refl,
  sym,
  ap,
  ◌∙◌,
  arith,
}
use Rattle.std.specs.Prelude.{option_map, if◌then◌else◌}
use Rattle.std.proofs.lemmas.List.{append_assoc, append-nil, take_more_set}
use Rattle.script_text.specs.Numbers.{number_at}
use Rattle.script_text.specs.Words.{line_words, is_line_text}
use Rattle.nvme_grammar.specs.Arity.{◌>>=◌}
use Rattle.nvme_grammar.specs.Requests.{numbers_at}
use Rattle.nvme_grammar.specs.Lists.{line_numbers}

-- numbers before others
abbrev pub behind : List ℕ → Option (List ℕ) → Option (List ℕ)
behind front rest = option_map (λ ns. front ++ ns) rest

pub behind-none : (o : Option (List ℕ)) → behind [] o ≡ o
behind-none None = refl
behind-none (Some ns) = refl

pub behind-two : (xs ys : List ℕ) (o : Option (List ℕ)) → behind xs (behind ys o) ≡ behind (xs ++ ys) o
behind-two xs ys None = refl
behind-two xs ys (Some ns) = ap Some (sym (append_assoc xs ys ns))

-- one word more
pub numbers-more : (word : List ℕ) (words : List (List ℕ)) (n : ℕ)
    → number_at 16 word ≡ Some n → numbers_at 16 (word ∷ words) ≡ behind (n ∷ []) (numbers_at 16 words)
numbers-more word words n e = rw e (by (numbers_at 16 words))
  where
    by : (o : Option (List ℕ)) → (o >>= (λ rest. Some (n ∷ rest))) ≡ behind (n ∷ []) o
    by None = refl
    by (Some ns) = refl

pub numbers-none : (word : List ℕ) (words : List (List ℕ))
    → number_at 16 word ≡ None → numbers_at 16 (word ∷ words) ≡ None
numbers-none word words e = rw e refl

-- the words of a line, one word more
pub line-more : (line rest word : List ℕ) (n : ℕ) → is_line_text rest ≡ is_line_text line
    → (is_line_text line ≡ true → line_words line ≡ word ∷ line_words rest)
    → number_at 16 word ≡ Some n → line_numbers line ≡ behind (n ∷ []) (line_numbers rest)
line-more line rest word n text words e = by (is_line_text line) text words
  where
    by : (t : Bool) → is_line_text rest ≡ t → (t ≡ true → line_words line ≡ word ∷ line_words rest)
        → (if t then numbers_at 16 (line_words line) else None) ≡ behind (n ∷ []) (line_numbers rest)
    by true same h = rw (same, h refl) (numbers-more word (line_words rest) n e)
    by false same h = rw same refl

pub line-none : (line rest word : List ℕ) → (is_line_text line ≡ true → line_words line ≡ word ∷ line_words rest)
    → number_at 16 word ≡ None → line_numbers line ≡ None
line-none line rest word words e = by (is_line_text line) words
  where
    by : (t : Bool) → (t ≡ true → line_words line ≡ word ∷ line_words rest)
        → (if t then numbers_at 16 (line_words line) else None) ≡ None
    by true h = rw (h refl) (numbers-none word (line_words rest) e)
    by false h = refl

-- the same for the words of a line
pub line-written : (line rest after word buffer : List ℕ) (i n : ℕ)
    → i < length buffer → is_line_text after ≡ is_line_text rest
    → (is_line_text rest ≡ true → line_words rest ≡ word ∷ line_words after) → number_at 16 word ≡ Some n
    → line_numbers line ≡ behind (take i buffer) (line_numbers rest)
    → line_numbers line ≡ behind (take (i + 1) (slice_set buffer i n)) (line_numbers after)
line-written line rest after word buffer i n room text words e h =
    h ∙ ap (behind (take i buffer)) (line-more rest after word n text words e)
    ∙ behind-two (take i buffer) (n ∷ []) (line_numbers after)
    ∙ ap (λ t. behind t (line_numbers after)) (sym (take_more_set buffer i n room))

pub line-stopped : (line rest front : List ℕ)
    → line_numbers rest ≡ None → line_numbers line ≡ behind front (line_numbers rest) → line_numbers line ≡ None
line-stopped line rest front none h = h ∙ ap (behind front) none

pub no_text : (line : List ℕ) → is_line_text line ≡ false → line_numbers line ≡ None
no_text line e = ap (λ t. if t then numbers_at 16 (line_words line) else None) e

pub line-done : (line rest front : List ℕ) → length rest ≡ 0 → line_numbers line ≡ behind front (line_numbers rest)
    → line_numbers line ≡ Some front
line-done line [] front none h = h ∙ ap Some (append-nil front)
line-done line (b ∷ rest) front none h = absurd (omega (arith, none))
