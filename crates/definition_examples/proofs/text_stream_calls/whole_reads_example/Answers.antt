use Rattle.std.proofs.Common.{List, [], ◌∷◌, Some, Ok, refl, arith}
use Rattle.script_text.specs.Streams.{ReadCall, Reads, Calls}
use Rattle.script_text.specs.Reading.{ReadsOn, ReadsText}
use Rattle.definition_examples.specs.TextStreams.{no_read, unknown_bytes}
use Rattle.definition_examples.proofs.text_stream_calls.whole_reads_example.Goals as goal

pub returns-clause-empty : goal.returns-clause-empty
returns-clause-empty c = record {
  calls = Reads 4096 (Some []) ∷ [];
  text = ((omega arith, refl), refl, refl);
  made = (tt, tt, refl);
  consumed = tt;
  ended = λ _. tt;
}

-- a text is not read without a read
no-calls : (calls : List ReadCall) → ReadsText [] calls (Ok []) → Calls no_read tt calls tt → ⊥
no-calls [] text made = omega (arith, text.0)
no-calls (call ∷ calls) text made = made.1

unread : ReadsOn no_read unknown_bytes [] tt (Ok []) tt → ⊥
unread r = no-calls r.calls r.text r.made

pub returns-clause-without_a_read : goal.returns-clause-without_a_read
returns-clause-without_a_read c r = unread r
