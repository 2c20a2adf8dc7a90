use Rattle.std.proofs.Common.{◌≡◌, ◌++◌, length}
use Rattle.std.specs.List.{flat_map}
use Rattle.nvme_grammar.specs.FaultTexts.{shown_byte}
use Rattle.nvme_grammar.proofs.fault_text.put_shown_bytes.Given as goal

abbrev pub invariant-loop-first : goal.invariant-loop-first
invariant-loop-first g l = g.P.Page.written l.page ++ flat_map shown_byte l.rest ≡ g.P.Page.written l.initial.page
    ++ flat_map shown_byte l.initial.rest

abbrev pub decreases-loop-first : goal.decreases-loop-first
decreases-loop-first g l = length l.rest
