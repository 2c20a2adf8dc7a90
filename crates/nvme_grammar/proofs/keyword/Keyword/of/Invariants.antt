use Rattle.std.proofs.Common.{◌≡◌, length}
use Rattle.std.specs.List.{find}
use Rattle.std.specs.Str.{bytes_eq}
use Rattle.nvme_grammar.specs.Keywords.{keyword_text, keyword_of}
use Rattle.nvme_grammar.proofs.keyword.Keyword.of.Given as goal

abbrev pub invariant-loop-keyword : goal.invariant-loop-keyword
invariant-loop-keyword l = find (λ k. bytes_eq l.word (keyword_text k)) l.keywords ≡ keyword_of l.word

abbrev pub decreases-loop-keyword : goal.decreases-loop-keyword
decreases-loop-keyword l = length l.keywords
