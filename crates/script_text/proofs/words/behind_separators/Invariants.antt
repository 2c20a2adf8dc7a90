use Rattle.std.proofs.Common.{◌≡◌, ◌≤◌, length}
use Rattle.script_text.specs.Words.{line_words, is_line_text, behind_separators}
use Rattle.script_text.proofs.words.behind_separators.Given as goal

abbrev pub invariant-loop-first : goal.invariant-loop-first
invariant-loop-first l = record {
  exact : behind_separators l.rest ≡ behind_separators l.line;
  words : line_words l.rest ≡ line_words l.line;
  text : is_line_text l.rest ≡ is_line_text l.line;
  shorter : length l.rest ≤ length l.line;
}

abbrev pub decreases-loop-first : goal.decreases-loop-first
decreases-loop-first l = length l.rest
