-- For `ReadBack`: a keyword and the words after it are parsed by that keyword.
use Rattle.std.proofs.Common.{◌≡◌, ◌∙◌, ℕ, ◌<◌, true, false, List, [], ◌∷◌, ◌++◌, length, Some, refl, sym, ap, arith}
use Rattle.std.specs.List.{list_all}
use Rattle.std.proofs.lemmas.Bool.{false≢true}
use Rattle.std.proofs.lemmas.List.{append-nil}
use Rattle.script_text.specs.Words.{is_nonempty, is_visible}
use Rattle.nvme_grammar.specs.Keywords.{keyword_of, keyword_text}
use Rattle.nvme_grammar.specs.Line.{is_comment, line_at, sentence, sentence_by}
use Rattle.nvme_grammar.specs.declared.keyword.Keyword.{Keyword}
use Rattle.nvme_grammar.specs.declared.keyword.Keyword.TheVariants.{
  Controller,
  Namespace,
  Attached,
  Start,
  Up,
  Read,
  Write,
  Compare,
  Zeroes,
  Flush,
  Register,
  Acquire,
  Release,
  Report,
  Identify,
  Protect,
  Protection,
  Attach,
  Detach,
  Ring,
  Fetch,
  Execute,
  Poll,
  Reset,
  Store,
  Write32,
  PowerCycle,
}
use Rattle.nvme_lines.specs.LineTexts.{keyword_line, spaced}
use Rattle.nvme_lines.proofs.Wording.{AreWords, IsWord, text-spaced, words-spaced}

-- a keyword is parsed from its text, which is a nonempty visible word and does not begin a comment
abbrev IsNamed : Keyword → Type 0
IsNamed k = (keyword_of (keyword_text k) ≡ Some k) × (list_all is_visible (keyword_text k) ≡ true)
    × (is_nonempty (keyword_text k) ≡ true) × ((rest : List ℕ) → is_comment (keyword_text k ++ rest) ≡ false)

named : (k : Keyword) → IsNamed k
unfolding keyword_of
named Controller = (refl, refl, refl, λ rest. refl)
named Namespace = (refl, refl, refl, λ rest. refl)
named Attached = (refl, refl, refl, λ rest. refl)
named Start = (refl, refl, refl, λ rest. refl)
named Up = (refl, refl, refl, λ rest. refl)
named Read = (refl, refl, refl, λ rest. refl)
named Write = (refl, refl, refl, λ rest. refl)
named Compare = (refl, refl, refl, λ rest. refl)
named Zeroes = (refl, refl, refl, λ rest. refl)
named Flush = (refl, refl, refl, λ rest. refl)
named Register = (refl, refl, refl, λ rest. refl)
named Acquire = (refl, refl, refl, λ rest. refl)
named Release = (refl, refl, refl, λ rest. refl)
named Report = (refl, refl, refl, λ rest. refl)
named Identify = (refl, refl, refl, λ rest. refl)
named Protect = (refl, refl, refl, λ rest. refl)
named Protection = (refl, refl, refl, λ rest. refl)
named Attach = (refl, refl, refl, λ rest. refl)
named Detach = (refl, refl, refl, λ rest. refl)
named Ring = (refl, refl, refl, λ rest. refl)
named Fetch = (refl, refl, refl, λ rest. refl)
named Execute = (refl, refl, refl, λ rest. refl)
named Poll = (refl, refl, refl, λ rest. refl)
named Reset = (refl, refl, refl, λ rest. refl)
named Store = (refl, refl, refl, λ rest. refl)
named Write32 = (refl, refl, refl, λ rest. refl)
named PowerCycle = (refl, refl, refl, λ rest. refl)

some : (word : List ℕ) → is_nonempty word ≡ true → 0 < length word
some [] h = absurd (false≢true h)
some (b ∷ word) h = omega arith

keyword-word : (k : Keyword) → IsWord (keyword_text k)
keyword-word k = record { some = some (keyword_text k) (named k).2; visible = (named k).1 }

-- the meaning of a line of this keyword and these words
pub said : (k : Keyword) (words : List (List ℕ)) → AreWords words → line_at (keyword_line k words) ≡ sentence_by k words
unfolding line_at sentence
said k words are =
    rw (
      (named k).3 (spaced words),
      text-spaced (keyword_text k) words (keyword-word k) are,
      words-spaced (keyword_text k) words (keyword-word k) are,
      (named k).0,
    ) refl

-- a line of only the keyword
pub said-alone : (k : Keyword) → line_at (keyword_text k) ≡ sentence_by k []
said-alone k = ap line_at (sym (append-nil (keyword_text k))) ∙ said k [] tt
