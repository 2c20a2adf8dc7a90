use Rattle.std.proofs.Common.{List, [], ◌∷◌, ℕ, Ok, inl, inr, arith, ap, length, codes}
use Rattle.std.proofs.lemmas.Bool.{false≢true}
use Rattle.std.specs.declared.io.Error.{Error}
use Rattle.script_text.specs.Streams.{WriteCall, Calls}
use Rattle.script_text.specs.Writing.{IsWritten, WritesBytes}
use Rattle.nvme_transcript.specs.Writing.{WritesLine}
use Rattle.definition_examples.specs.TextStreams.{unable_write}
use Rattle.definition_examples.proofs.text_stream_calls.unwritten_bytes_example.Goals as goal

-- bytes are not written without a write
no-calls : (E : Type 0) (byte : ℕ) (bytes : List ℕ) (calls : List WriteCall) (new : Unit {0})
    → WritesBytes {T = Unit {0}} {E = E} (byte ∷ bytes) calls (Ok tt) → Calls unable_write tt calls new → ⊥
no-calls E byte bytes [] new written made = omega (arith, ap length written.0)
no-calls E byte bytes (call ∷ calls) new written made = made.1

unwritten : (E : Type 0) (byte : ℕ) (bytes : List ℕ) (new : Unit {0})
    → IsWritten {T = Unit {0}} {E = E} unable_write (byte ∷ bytes) tt (Ok tt) new → ⊥
unwritten E byte bytes new w = no-calls E byte bytes w.calls new w.writes w.made

pub returns-clause-bytes : goal.returns-clause-bytes
returns-clause-bytes c sent = unwritten Error 1 [] sent.0 sent.1

no-line : WritesLine {T = Unit {0}} {E = ℕ} unable_write (codes "stored 1") tt (Ok tt) tt → ⊥
no-line (inl line) = unwritten ℕ _ _ tt line
no-line (inr line) = false≢true line.1

pub returns-clause-line : goal.returns-clause-line
returns-clause-line c line = no-line line
