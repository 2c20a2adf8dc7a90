-- For the answer of `first_word` and for `nvme_grammar`: a line split at its front.
use Rattle.std.proofs.Common.{
  ◌≡◌,
  ℕ,
  suc,
  ◌<◌,
  ◌+◌,
  List,
  [],
  ◌∷◌,
  length,
  take,
  drop,
  get_or,
  true,
  false,
  Bool,
  refl,
  ap,
  sym,
  ◌∙◌,
  not,
  arith,
}
use Rattle.std.specs.Prelude.{◌||◌, ◌&&◌, if◌then◌else◌, filter}
use Rattle.std.specs.List.{prefix_len, slice_split}
use Rattle.std.proofs.lemmas.Bool.{false≢true}
use Rattle.script_text.specs.Words.{
  is_separator,
  is_visible,
  is_line_text,
  is_nonempty,
  line_words,
  starts_apart,
  behind_separators,
  behind_word,
}

-- a separator at the front does not change the words
pub separator-words : (b : ℕ) (bs : List ℕ) → is_separator b ≡ true → line_words (b ∷ bs) ≡ line_words bs
separator-words b bs h = rw h refl

pub separator-text : (b : ℕ) (bs : List ℕ) → is_separator b ≡ true → is_line_text (b ∷ bs) ≡ is_line_text bs
separator-text b bs h = rw h refl

-- a character of a word is not a separator
visible-apart : (b : ℕ) → is_visible b ≡ true → is_separator b ≡ false
visible-apart b h = grind (arith)

-- if the front is neither a visible character nor a separator, the line is not text
pub invisible : (bs : List ℕ) → starts_apart bs ≡ true → 0 < length bs → prefix_len is_visible bs ≡ 0
    → is_line_text bs ≡ false
invisible [] apart some none = absurd (omega arith)
invisible (b ∷ bs) apart some none = by (is_visible b) (is_separator b) none apart
  where
    by : (v s : Bool) → (if v then 1 + prefix_len is_visible bs else 0) ≡ 0 → not s ≡ true
        → ((s || v) && is_line_text bs) ≡ false
    by true s e a = absurd (omega arith)
    by false true e a = absurd (false≢true a)
    by false false e a = refl

one-more : (n : ℕ) → 1 + n ≡ suc n
one-more n = omega arith

-- the rest after a separator, and after a word
pub separator-behind : (b : ℕ) (bs : List ℕ) → is_separator b ≡ true → behind_separators (b ∷ bs) ≡ behind_separators bs
separator-behind b bs h = rw (h, one-more (prefix_len is_separator bs)) refl

pub word-behind : (line rest bs : List ℕ) (b : ℕ) → drop (prefix_len is_visible line) line ≡ b ∷ bs
    → is_separator b ≡ true → rest ≡ behind_separators bs
    → rest ≡ behind_word line
word-behind line rest bs b e h same = rw e (same ∙ sym (separator-behind b bs h))

pub word-last : (line rest : List ℕ) → drop (prefix_len is_visible line) line ≡ rest → length rest ≡ 0
    → rest ≡ behind_word line
word-last line [] e none = rw e refl
word-last line (b ∷ bs) e none = absurd (omega (arith, none))

-- a line is text if the rest after its first visible characters is
pub behind-text : (bs : List ℕ) → is_line_text (drop (prefix_len is_visible bs) bs) ≡ is_line_text bs
behind-text [] = refl
behind-text (b ∷ bs) = by (is_visible b) refl (behind-text bs)
  where
    by : (v : Bool) → is_visible b ≡ v → is_line_text (drop (prefix_len is_visible bs) bs) ≡ is_line_text bs
        → is_line_text (drop (prefix_len is_visible (b ∷ bs)) (b ∷ bs)) ≡ is_line_text (b ∷ bs)
    by true e rest = rw (e, visible-apart b e, one-more (prefix_len is_visible bs)) rest
    by false e rest = ap (λ v. is_line_text (drop (if v then 1 + prefix_len is_visible bs else 0) (b ∷ bs))) e

-- The first visible characters of a text, and its other parts.
abbrev Parted : List ℕ → Type 0
Parted bs = (parts : List (List ℕ)) × (slice_split is_separator bs ≡ take (prefix_len is_visible bs) bs ∷ parts)
    × (filter is_nonempty parts ≡ line_words (drop (prefix_len is_visible bs) bs))

parted : (bs : List ℕ) → is_line_text bs ≡ true → Parted bs
parted [] text = ([], refl, refl)
parted (b ∷ bs) text = by (is_visible b) (is_separator b) refl refl text (parted bs)
  where
    by : (v s : Bool) → is_visible b ≡ v → is_separator b ≡ s → ((s || v) && is_line_text bs) ≡ true
        → (is_line_text bs ≡ true → Parted bs) → Parted (b ∷ bs)
    by true true e f h rest = absurd (false≢true (sym (visible-apart b e) ∙ f))
    by true false e f h rest =
        let r = rest h in
        (r.0, rw (e, f, r.1, one-more (prefix_len is_visible bs)) refl, rw (e, one-more (prefix_len is_visible bs)) r.2)
    by false true e f h rest = (slice_split is_separator bs, rw (e, f) refl, rw (e, f) refl)
    by false false e f h rest = absurd (false≢true h)

-- a line that begins with a visible character begins with a word, and its other words follow it
pub front-words : (bs : List ℕ) → is_line_text bs ≡ true → 0 < length (take (prefix_len is_visible bs) bs)
    → line_words bs ≡ take (prefix_len is_visible bs) bs ∷ line_words (drop (prefix_len is_visible bs) bs)
front-words bs text some =
    let p = parted bs text in
    ap (filter is_nonempty) p.1 ∙ by (take (prefix_len is_visible bs) bs) p.0 some
    ∙ ap (λ t. take (prefix_len is_visible bs) bs ∷ t) p.2
  where
    by : (word : List ℕ) (parts : List (List ℕ))
        → 0 < length word → filter is_nonempty (word ∷ parts) ≡ word ∷ filter is_nonempty parts
    by [] parts h = absurd (omega arith)
    by (b ∷ word) parts h = refl

same_head : (x b : ℕ) (xs bs : List ℕ) → x ∷ xs ≡ b ∷ bs → x ≡ b
same_head x b xs bs e = ap (λ l. get_or l 0 0) e

-- the byte after a word that does not end the line is not visible
stopped : (bs rest : List ℕ) (b : ℕ) → drop (prefix_len is_visible bs) bs ≡ b ∷ rest → is_visible b ≡ false
stopped [] rest b e = absurd (let none : 0 ≡ suc (length rest) = ap length e in omega (arith, none))
stopped (x ∷ bs) rest b e = by (is_visible x) refl e (stopped bs rest b)
  where
    by : (v : Bool) → is_visible x ≡ v → drop (if v then 1 + prefix_len is_visible bs else 0) (x ∷ bs) ≡ b ∷ rest
        → (drop (prefix_len is_visible bs) bs ≡ b ∷ rest → is_visible b ≡ false) → is_visible b ≡ false
    by true f e more = more (rw (one-more (prefix_len is_visible bs)) at e)
    by false f e more = ap is_visible (sym (same_head x b bs rest e)) ∙ f

-- if that is not a separator either, the line is not text
pub no_end : (bs rest : List ℕ) (b : ℕ) → drop (prefix_len is_visible bs) bs ≡ b ∷ rest → is_separator b ≡ false
    → is_line_text bs ≡ false
no_end bs rest b e s = sym (behind-text bs) ∙ ap is_line_text e ∙ rw (s, stopped bs rest b e) refl

-- a text that does not begin with a separator has a word
pub some_words : (bs : List ℕ) → starts_apart bs ≡ true → 0 < length bs → is_line_text bs ≡ true
    → 0 < length (line_words bs)
some_words [] apart some text = absurd (omega (arith, some))
some_words (b ∷ bs) apart some text = by (is_visible b) (is_separator b) refl apart text
  where
    first : is_visible b ≡ true → 0 < length (take (prefix_len is_visible (b ∷ bs)) (b ∷ bs))
    first e = rw (e, one-more (prefix_len is_visible bs)) (omega arith)

    by : (v s : Bool) → is_visible b ≡ v → not s ≡ true → ((s || v) && is_line_text bs) ≡ true
        → 0 < length (line_words (b ∷ bs))
    by true s e a t = rw (front-words (b ∷ bs) text (first e)) (omega arith)
    by false true e a t = absurd (false≢true a)
    by false false e a t = absurd (false≢true t)
