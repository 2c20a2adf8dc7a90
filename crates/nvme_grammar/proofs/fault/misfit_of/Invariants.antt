use Rattle.std.proofs.Common.{◌≡◌, ◌+◌, ◌≤◌, length, true}
use Rattle.script_text.specs.Words.{line_words, is_line_text, starts_apart, from_word}
use Rattle.nvme_grammar.specs.Room.{HasBytesRoom}
use Rattle.nvme_grammar.specs.LineFaults.{misfit}
use Rattle.nvme_grammar.proofs.fault.misfit_of.Given as goal

abbrev pub invariant-loop-before : goal.invariant-loop-before
invariant-loop-before l = record {
  text : is_line_text l.rest ≡ true;
  apart : starts_apart l.rest ≡ true;
  at : l.rest ≡ from_word (l.index + 1) l.line;
  short : l.index + length l.rest ≤ length l.line;
  room : HasBytesRoom l.line l.bytes;
  words : misfit l.keyword l.line l.index l.before (line_words l.rest)
      ≡ misfit l.keyword l.line 0 l.initial.before (line_words l.initial.rest);
}

abbrev pub decreases-loop-before : goal.decreases-loop-before
decreases-loop-before l = length l.rest
