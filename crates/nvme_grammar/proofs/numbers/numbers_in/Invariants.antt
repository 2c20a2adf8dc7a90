use Rattle.std.proofs.Common.{◌≡◌, ◌≤◌, length, true}
use Rattle.script_text.specs.Words.{line_words, is_line_text, starts_apart}
use Rattle.nvme_grammar.specs.Reader.{Numbers}
use Rattle.nvme_grammar.proofs.numbers.numbers_in.Given as goal

abbrev pub invariant-loop-numbers : goal.invariant-loop-numbers
invariant-loop-numbers l = record {
  words : is_line_text l.line ≡ true → Numbers l.numbers.items (line_words l.line) (line_words l.rest);
  text : is_line_text l.rest ≡ is_line_text l.line;
  apart : starts_apart l.rest ≡ true;
  within : length l.rest ≤ length l.line;
  most : length l.numbers.items ≤ l.most;
}

abbrev pub decreases-loop-numbers : goal.decreases-loop-numbers
decreases-loop-numbers l = length l.rest
