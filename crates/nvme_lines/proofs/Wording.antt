-- For `ReadBack`: words with single spaces between them are the words of their line.
use Rattle.std.proofs.Common.{◌≡◌, ◌∙◌, ℕ, ◌<◌, true, false, List, [], ◌∷◌, ◌++◌, length, refl, ap, arith}
use Rattle.std.specs.Prelude.{filter}
use Rattle.std.specs.List.{list_all, slice_split}
use Rattle.std.proofs.lemmas.Bool.{and_parts}
use Rattle.std.proofs.lemmas.List.{append-nil}
use Rattle.script_text.specs.Words.{is_line_text, is_nonempty, is_separator, is_text, is_visible, line_words}
use Rattle.nvme_lines.specs.LineTexts.{spaced}

-- one or more visible characters
pub record IsWord (word : List ℕ) : Type 0 where
  pub some : 0 < length word
  pub visible : list_all is_visible word ≡ true

abbrev pub AreWords : List (List ℕ) → Type 0
AreWords [] = Unit {0}
AreWords (word ∷ words) = IsWord word × AreWords words

apart : (b : ℕ) → is_visible b ≡ true → is_separator b ≡ false
apart b h = grind (arith)

text : (b : ℕ) → is_visible b ≡ true → is_text b ≡ true
text b h = grind (arith)

split-space : (word rest : List ℕ) → list_all is_visible word ≡ true
    → slice_split is_separator (word ++ 32 ∷ rest) ≡ word ∷ slice_split is_separator rest
split-space [] rest h = refl
split-space (b ∷ word) rest h =
    let parts = and_parts (is_visible b) (list_all is_visible word) h in
    rw (apart b parts.0, split-space word rest parts.1) refl

split-last : (word : List ℕ) → list_all is_visible word ≡ true → slice_split is_separator word ≡ word ∷ []
split-last [] h = refl
split-last (b ∷ word) h =
    let parts = and_parts (is_visible b) (list_all is_visible word) h in
    rw (apart b parts.0, split-last word parts.1) refl

stays : (word : List ℕ) (more : List (List ℕ))
    → 0 < length word → filter is_nonempty (word ∷ more) ≡ word ∷ filter is_nonempty more
stays [] more some = absurd (omega arith)
stays (b ∷ word) more some = refl

pub words-spaced : (word : List ℕ) (words : List (List ℕ))
    → IsWord word → AreWords words → line_words (word ++ spaced words) ≡ word ∷ words
words-spaced word [] is are =
    ap line_words (append-nil word) ∙ ap (filter is_nonempty) (split-last word is.visible) ∙ stays word [] is.some
words-spaced word (next ∷ words) is are =
    ap (filter is_nonempty) (split-space word (next ++ spaced words) is.visible)
    ∙ stays word (slice_split is_separator (next ++ spaced words)) is.some
    ∙ ap (λ more. word ∷ more) (words-spaced next words are.0 are.1)

text-word : (word rest : List ℕ) → list_all is_visible word ≡ true → is_line_text rest ≡ true
    → is_line_text (word ++ rest) ≡ true
text-word [] rest h more = more
text-word (b ∷ word) rest h more =
    let parts = and_parts (is_visible b) (list_all is_visible word) h in
    rw (text b parts.0, text-word word rest parts.1 more) refl

text-words : (words : List (List ℕ)) → AreWords words → is_line_text (spaced words) ≡ true
text-words [] are = refl
text-words (word ∷ words) are = text-word word (spaced words) are.0.visible (text-words words are.1)

pub text-spaced : (word : List ℕ) (words : List (List ℕ))
    → IsWord word → AreWords words → is_line_text (word ++ spaced words) ≡ true
text-spaced word words is are = text-word word (spaced words) is.visible (text-words words are)
