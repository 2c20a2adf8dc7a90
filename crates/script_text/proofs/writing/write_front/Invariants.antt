use Rattle.std.proofs.Common.{◌≤◌, ◌-◌, length, take, drop}
use Rattle.std.specs.Prelude.{Result}
use Rattle.std.specs.Io.KnownBytes.{Appends}
use Rattle.std.specs.declared.io.Error.{Error}
use Rattle.script_text.specs.Writing.{IsWritten}
use Rattle.script_text.proofs.writing.write_front.Given as goal

abbrev pub invariant-loop-written : goal.invariant-loop-written
invariant-loop-written g l = record {
  within : l.written ≤ length l.bytes;
  appended : Appends (g.W.Sink.contents l.fn.writer) (g.W.Sink.contents l.writer) (take l.written l.bytes);
  rest : (outcome : Result (Unit {0}) Error) (new : g.row.W.Denot)
      → IsWritten g.W.Sink.step (drop l.written l.bytes) l.writer outcome new
      → IsWritten g.W.Sink.step l.bytes l.fn.writer outcome new;
}

abbrev pub decreases-loop-written : goal.decreases-loop-written
decreases-loop-written g l = length l.bytes - l.written
