use Rattle.std.proofs.Common.{◌≡◌, length}
use Rattle.script_text.specs.Lines.{text_lines, lines_left}
use Rattle.nvme_grammar.specs.Beginnings.{lines_begin as begin}
use Rattle.nvme_grammar.proofs.FaultLemmas.{IsWithin, left_length}
use Rattle.nvme_grammar.proofs.beginning.lines_begin.Given as goal

abbrev pub invariant-loop-rest : goal.invariant-loop-rest
invariant-loop-rest l = record {
  within : IsWithin l.rest (length l.text);
  begin : begin (lines_left l.rest) ≡ begin (text_lines l.text);
}

abbrev pub decreases-loop-rest : goal.decreases-loop-rest
decreases-loop-rest l = left_length l.rest
