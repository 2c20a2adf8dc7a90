use Rattle.std.proofs.Common.{◌≡◌, ◌++◌, length}
use Rattle.nvme_lines.specs.LineTexts.{decimals, spaced}
use Rattle.nvme_lines.proofs.words.put_numbers.Given as goal

abbrev pub invariant-loop-first : goal.invariant-loop-first
invariant-loop-first g l = g.P.Page.written l.page ++ spaced (decimals l.rest) ≡ g.P.Page.written l.initial.page
    ++ spaced (decimals l.initial.rest)

abbrev pub decreases-loop-first : goal.decreases-loop-first
decreases-loop-first g l = length l.rest
