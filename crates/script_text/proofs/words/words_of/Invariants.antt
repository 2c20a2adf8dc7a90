use Rattle.std.proofs.Common.{◌≡◌, ◌≤◌, ◌+◌, ◌++◌, length, map, true}
use Rattle.std.specs.List.{AllByRecursion}
use Rattle.script_text.specs.Words.{line_words, is_line_text, starts_apart, most_words}
use Rattle.script_text.proofs.words.words_of.Given as goal

abbrev pub invariant-loop-words : goal.invariant-loop-words
invariant-loop-words l = record {
  words : is_line_text l.line ≡ true → line_words l.line ≡ map (λ word. word.now) l.words.items ++ line_words l.rest;
  text : is_line_text l.rest ≡ is_line_text l.line;
  apart : starts_apart l.rest ≡ true;
  short : length l.rest ≤ length l.line;
  within : AllByRecursion (λ word. length word.now ≤ length l.line) l.words.items;
  room : length l.words.items + most_words l.rest ≤ most_words l.line;
}

abbrev pub decreases-loop-words : goal.decreases-loop-words
decreases-loop-words l = most_words l.rest
