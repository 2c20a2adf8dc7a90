use Rattle.std.proofs.Common.{◌≡◌, ◌+◌, ◌≤◌, drop, length, take}
use Rattle.std.specs.Prelude.{IfSome}
use Rattle.script_text.specs.Lines.{text_lines, lines_left, longest_line}
use Rattle.nvme_grammar.specs.Script.{said, events_of}
use Rattle.nvme_grammar.specs.Kept.{kept_events}
use Rattle.nvme_grammar.specs.Reading.{Reads}
use Rattle.nvme_grammar.proofs.KeptLemmas.{IsEnd}
use Rattle.nvme_grammar.proofs.ScriptLemmas.{AllBegin, lines_length}
use Rattle.nvme_grammar.proofs.script.read_lines.Given as goal

abbrev pub invariant-loop-rest : goal.invariant-loop-rest
invariant-loop-rest l = record {
  left : lines_left l.rest ≡ drop l.before (text_lines l.text);
  begun : AllBegin l.before (text_lines l.text);
  read : Reads l.script (said (take l.before (text_lines l.text)));
  events : kept_events l.text l.script.events.items ≡ events_of (take l.before (text_lines l.text));
  end : IsEnd l.text l.rest;
  longest : IfSome l.rest (λ rest. longest_line rest.now ≤ longest_line l.text);
  within : l.before + lines_length l.rest ≤ length l.text + 1;
}

abbrev pub decreases-loop-rest : goal.decreases-loop-rest
decreases-loop-rest l = lines_length l.rest
