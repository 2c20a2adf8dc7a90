use Rattle.std.proofs.Common.{◌≤◌, ◌-◌, length}
use Rattle.script_text.specs.Lines.{longest_line}
use Rattle.script_text.proofs.LineLengths.{AreBounded}
use Rattle.script_text.proofs.lines.line_bound.Given as goal

abbrev pub invariant-loop-place : goal.invariant-loop-place
invariant-loop-place l = record {
  bounded : AreBounded l.text 4096 l.longest l.place;
  close : l.longest ≤ longest_line l.text;
  short : l.longest ≤ length l.text;
}

abbrev pub decreases-loop-place : goal.decreases-loop-place
decreases-loop-place l = length l.text - l.place
