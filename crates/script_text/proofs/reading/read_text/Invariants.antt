use Rattle.std.proofs.Common.{◌≤◌, ◌-◌, List, ℕ, vec_len}
use Rattle.std.specs.Prelude.{Result}
use Rattle.script_text.specs.declared.reading.ReadFault.{ReadFault}
use Rattle.script_text.specs.Reading.{ReadsOn, IsRead}
use Rattle.script_text.proofs.reading.read_text.Given as goal

abbrev pub invariant-loop-chunk : goal.invariant-loop-chunk
invariant-loop-chunk g l = record {
  rest : (outcome : Result (List ℕ) ReadFault) (new : g.row.R.Denot)
      → ReadsOn g.R.Source.step g.R.Source.remaining l.text.items l.reader outcome new
      → IsRead g.R.Source.step g.R.Source.remaining l.fn.reader outcome new;
  bound : vec_len l.text ≤ 4194305;
}

abbrev pub decreases-loop-chunk : goal.decreases-loop-chunk
decreases-loop-chunk g l = 4194305 - vec_len l.text
