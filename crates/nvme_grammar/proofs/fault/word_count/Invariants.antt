use Rattle.std.proofs.Common.{◌≡◌, ◌+◌, ◌≤◌, length, true}
use Rattle.script_text.specs.Words.{line_words, is_line_text, starts_apart}
use Rattle.nvme_grammar.proofs.fault.word_count.Given as goal

abbrev pub invariant-loop-rest : goal.invariant-loop-rest
invariant-loop-rest l = record {
  text : is_line_text l.rest ≡ true;
  apart : starts_apart l.rest ≡ true;
  short : l.count + length l.rest ≤ length l.line;
  count : l.count + length (line_words l.rest) ≡ length (line_words l.line);
}

abbrev pub decreases-loop-rest : goal.decreases-loop-rest
decreases-loop-rest l = length l.rest
