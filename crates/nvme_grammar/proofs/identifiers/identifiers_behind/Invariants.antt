use Rattle.std.proofs.Common.{◌≡◌, ◌≤◌, ◌+◌, length, take, true}
use Rattle.script_text.specs.Words.{starts_apart, most_words}
use Rattle.nvme_grammar.specs.Lists.{line_numbers}
use Rattle.nvme_grammar.proofs.IdentifierLemmas.{behind}
use Rattle.nvme_grammar.proofs.identifiers.identifiers_behind.Given as goal

abbrev pub invariant-loop-rest : goal.invariant-loop-rest
invariant-loop-rest l = record {
  list : line_numbers l.line ≡ behind (take l.count l.buffer) (line_numbers l.rest);
  apart : starts_apart l.rest ≡ true;
  room : l.count + most_words l.rest ≤ length l.buffer;
}

abbrev pub decreases-loop-rest : goal.decreases-loop-rest
decreases-loop-rest l = most_words l.rest
