use Rattle.std.proofs.Common.{◌≡◌, ◌≤◌, ◌+◌, length}
use Rattle.std.specs.Prelude.{IfSome, slice_get}
use Rattle.script_text.specs.Lines.{lines_left, longest_line, text_lines}
use Rattle.nvme_grammar.specs.Room.{HasTextRoom, HasWordsRoom}
use Rattle.nvme_program.specs.SetupLines.{number_in, numbers_of_kind}
use Rattle.nvme_program.proofs.Left.{left_length, IsWithin}
use Rattle.nvme_program.proofs.setup_lines.number_in.Given as goal

-- the remaining lines decide, from this number
abbrev pub invariant-loop-rest : goal.invariant-loop-rest
invariant-loop-rest l = record {
  within : IsWithin l.rest (length l.text);
  longest : IfSome l.rest (λ rest. longest_line rest.now ≤ longest_line l.text);
  bytes : HasTextRoom l.text l.bytes;
  identifiers : HasWordsRoom l.text l.identifiers;
  decides : slice_get (numbers_of_kind l.wanted l.number (lines_left l.rest)) l.left
      ≡ number_in l.wanted (text_lines l.text);
  counted : l.number + left_length l.rest ≤ length l.text + 2;
}

abbrev pub decreases-loop-rest : goal.decreases-loop-rest
decreases-loop-rest l = left_length l.rest
