use Rattle.std.proofs.Common.{◌≡◌, length}
use Rattle.std.specs.List.{find}
use Rattle.nvme_grammar.specs.Keywords.{keyword_text, nearest_to}
use Rattle.nvme_grammar.specs.Near.{is_meant}
use Rattle.nvme_grammar.proofs.keyword.Keyword.nearest.Given as goal

abbrev pub invariant-loop-keyword : goal.invariant-loop-keyword
invariant-loop-keyword l = find (λ k. is_meant l.word (keyword_text k)) l.keywords ≡ nearest_to l.word

abbrev pub decreases-loop-keyword : goal.decreases-loop-keyword
decreases-loop-keyword l = length l.keywords
