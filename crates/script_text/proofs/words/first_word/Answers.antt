use Rattle.std.proofs.Common.{◌≡◌, ◌<◌, ◌∷◌, arith, length, take, drop, sym, ap, ◌∙◌, true, false, refl, rules}
use Rattle.std.proofs.lemmas.List.Sums.{prefix_len-le-length}
use Rattle.std.proofs.lemmas.Grind.{common_steps}
use Rattle.script_text.specs.Words.{line_words, is_visible, is_line_text, is_separator}
use Rattle.script_text.proofs.WordLemmas.{
  behind-text,
  front-words,
  separator-words,
  separator-text,
  no_end,
  word-behind,
  word-last,
}
use Rattle.script_text.proofs.words.first_word.Goals as goal

pub split_at-requires : goal.split_at-requires
split_at-requires c = rw c.word_len.ensures (prefix_len-le-length is_visible c.args.line.now)

pub returns-in-None-clause-text : goal.returns-in-None-clause-text
returns-in-None-clause-text c =
    let line = c.args.line.now in
    let back = c.split_at.ensures.back ∙ ap (λ k. drop k line) c.word_len.ensures in
    ap is_line_text back ∙ behind-text line

pub returns-in-None-clause-words : goal.returns-in-None-clause-words
returns-in-None-clause-words c =
    let line = c.args.line.now in
    let front = c.split_at.ensures.front ∙ ap (λ k. take k line) c.word_len.ensures in
    let back = c.split_at.ensures.back ∙ ap (λ k. drop k line) c.word_len.ensures in
    let some : 0 < length c.split_at.result.0.now = grind (arith, common_steps) in
    λ text. front-words line text (rw (← front) some) ∙ rw (← front, ← back) refl

pub returns-in-Some-clause-text : goal.returns-in-Some-clause-text
returns-in-Some-clause-text c =
    let line = c.args.line.now in
    let back = c.split_at.ensures.back ∙ ap (λ k. drop k line) c.word_len.ensures in
    let parts : c.split_at.result.1.now ≡ c.in-Some.separator.now ∷ c.in-Some.behind.now = search rules in
    let apart : is_separator c.in-Some.separator.now ≡ true = search rules in
    c.behind_separators.ensures.text ∙ sym (separator-text c.in-Some.separator.now c.in-Some.behind.now apart)
    ∙ ap is_line_text (sym parts) ∙ ap is_line_text back ∙ behind-text line

pub returns-in-Some-clause-words : goal.returns-in-Some-clause-words
returns-in-Some-clause-words c =
    let line = c.args.line.now in
    let front = c.split_at.ensures.front ∙ ap (λ k. take k line) c.word_len.ensures in
    let back = c.split_at.ensures.back ∙ ap (λ k. drop k line) c.word_len.ensures in
    let some : 0 < length c.split_at.result.0.now = grind (arith, common_steps) in
    let parts : c.split_at.result.1.now ≡ c.in-Some.separator.now ∷ c.in-Some.behind.now = search rules in
    let apart : is_separator c.in-Some.separator.now ≡ true = search rules in
    let behind = c.behind_separators.ensures.words
    ∙ sym (separator-words c.in-Some.separator.now c.in-Some.behind.now apart) ∙ ap line_words (sym parts) in
    λ text. front-words line text (rw (← front) some) ∙ rw (← front, ← back, behind) refl

pub returns-in-Some-2-clause-none : goal.returns-in-Some-2-clause-none
returns-in-Some-2-clause-none c =
    let line = c.args.line.now in
    let back = c.split_at.ensures.back ∙ ap (λ k. drop k line) c.word_len.ensures in
    let parts : c.split_at.result.1.now ≡ c.in-Some-2.field-0.0.now ∷ c.in-Some-2.field-0.1.now = search rules in
    let apart : is_separator c.in-Some-2.field-0.0.now ≡ false = search rules in
    λ none. no_end line c.in-Some-2.field-0.1.now c.in-Some-2.field-0.0.now (sym back ∙ parts) apart

pub returns-in-None-clause-exact : goal.returns-in-None-clause-exact
returns-in-None-clause-exact c =
    let line = c.args.line.now in
    let back = c.split_at.ensures.back ∙ ap (λ k. drop k line) c.word_len.ensures in
    let none : length c.split_at.result.1.now ≡ 0 = search rules in
    word-last line _ (sym back) none

pub returns-in-Some-clause-exact : goal.returns-in-Some-clause-exact
returns-in-Some-clause-exact c =
    let line = c.args.line.now in
    let back = c.split_at.ensures.back ∙ ap (λ k. drop k line) c.word_len.ensures in
    let parts : c.split_at.result.1.now ≡ c.in-Some.separator.now ∷ c.in-Some.behind.now = search rules in
    let apart : is_separator c.in-Some.separator.now ≡ true = search rules in
    word-behind line _ c.in-Some.behind.now c.in-Some.separator.now
    (sym back ∙ parts) apart c.behind_separators.ensures.exact
