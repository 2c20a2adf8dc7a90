-- For the answer of `run_buffered`: a script's run whose transcript goes through a buffer.
use Rattle.std.proofs.Common.{
  ◌≡◌,
  ◌≤◌,
  ℕ,
  Bool,
  List,
  [],
  ◌∷◌,
  length,
  Option,
  Some,
  None,
  Result,
  Ok,
  inl,
  inr,
  refl,
  ap,
  subst,
  ◌∙◌,
  append-nil,
}
use Rattle.std.specs.Prelude.{◌⊎◌}
use Rattle.std.specs.Io.KnownBytes.{Appends, Keeps, append_known}
use Rattle.nvme_medium.specs.declared.medium.Medium as medium
use Rattle.script_text.specs.Streams.{Calls, WriteCall}
use Rattle.script_text.specs.Writing.{Broken, IsSent, Sent}
use Rattle.script_text.specs.declared.stream.Sink as sink
use Rattle.nvme_transcript.specs.Transcript.{transcript}
use Rattle.nvme_program.specs.declared.fault.ScriptFault.{ScriptFault}
use Rattle.nvme_program.specs.declared.fault.ScriptFault.TheVariants.{Syntax, Config, TooLong, NoMemory, Read, Write}
use Rattle.nvme_script.specs.Buffering.{Buffer, StepsBuffer, buffer_contents, most_held}
use Rattle.nvme_spec.specs.Configuration.{capacity}
use Rattle.nvme_script.specs.Faults.{IsScript, IsWrite, events_in}
use Rattle.nvme_script.specs.ProgramRuns.{FailsOver, RunsBuffered}
use Rattle.nvme_script.specs.ScriptWrites.{FailsLine, IsFault, RunsWriting, StopsWriting, WritesLines}

-- what is appended after what was appended before
pub Appends-kept : (x y z : Option (List ℕ)) (p : List ℕ) → Appends x y p → Keeps y z → Appends x z p
Appends-kept None y z p h k = tt
Appends-kept (Some xs) None z p h k = absurd h
Appends-kept (Some xs) (Some ys) None p h k = absurd k
Appends-kept (Some xs) (Some ys) (Some zs) p h k = k ∙ h

known-nil : (x : Option (List ℕ)) → append_known x [] ≡ x
known-nil None = refl
known-nil (Some xs) = ap Some (append-nil xs)

-- an empty buffer has written all that its output has
pub none-held : {O : Type 0} (contents : O → Option (List ℕ)) (b : Buffer O)
    → b.held ≡ [] → buffer_contents contents b ≡ contents b.output
none-held contents b none = ap (append_known (contents b.output)) none ∙ known-nil (contents b.output)

module _ {O : Type 0} (out : sink.Ghosts O) where
  abbrev Step : Buffer O → WriteCall → Buffer O → Type 0
  Step = StepsBuffer out.step out.contents

  -- calls keep the same output
  calls-stay : (calls : List WriteCall) (old new : Buffer O) → Calls Step old calls new → new.name ≡ old.name
  calls-stay [] old new is = ap (λ (b : Buffer O). b.name) is
  calls-stay (call ∷ calls) old new (mid, step, rest) = calls-stay calls mid new rest ∙ step.0

  pub lines-stay : (lines : List (List ℕ)) (old new : Buffer O) → WritesLines Step lines old new → new.name ≡ old.name
  lines-stay [] old new is = ap (λ (b : Buffer O). b.name) is
  lines-stay (line ∷ lines) old new (mid, written, rest) =
      lines-stay lines mid new rest ∙ calls-stay written.calls old mid written.made

  failed-stays : (line : List ℕ) (old new : Buffer O) → FailsLine Step line old new → new.name ≡ old.name
  failed-stays line old new (fault, inl written) = calls-stay written.calls old new written.made
  failed-stays line old new (fault, inr (long, failed, same)) = ap (λ (b : Buffer O). b.name) same

  module _ {M : Type 0} (calls : medium.Ghosts M) (most : ℕ) (text : List ℕ) (old new : M)
      (before after : Buffer O) where
    pub fault-name : (fault : ScriptFault) → IsFault calls.step calls.tells calls.device Step
        (buffer_contents out.contents) fault text (capacity most (calls.size old)) old new before after
        → IsWrite fault ⊎ ((new ≡ old) × (after ≡ before)) → after.name ≡ before.name
    fault-name Write h early = failed-stays _ h.1.between after h.1.failed ∙ lines-stay _ before h.1.between h.1.written
    fault-name (Syntax n) h (inr same) = ap (λ (b : Buffer O). b.name) same.1
    fault-name (Config n fault) h (inr same) = ap (λ (b : Buffer O). b.name) same.1
    fault-name TooLong h (inr same) = ap (λ (b : Buffer O). b.name) same.1
    fault-name NoMemory h (inr same) = ap (λ (b : Buffer O). b.name) same.1
    fault-name Read h (inr same) = ap (λ (b : Buffer O). b.name) same.1
    fault-name (Syntax n) h (inl write) = absurd write
    fault-name (Config n fault) h (inl write) = absurd write
    fault-name TooLong h (inl write) = absurd write
    fault-name NoMemory h (inl write) = absurd write
    fault-name Read h (inl write) = absurd write

    module _ (flushes : O → Bool → O → Type 0) (none : before.held ≡ []) where
      pub fails-over : (fault : ScriptFault) → IsFault calls.step calls.tells calls.device Step
          (buffer_contents out.contents) fault text (capacity most (calls.size old)) old new before after
          → IsWrite fault ⊎ ((new ≡ old) × (after ≡ before))
          → FailsOver calls out flushes most fault text old new before.output after.output
      fails-over Write h early =
          (h.0, inl (record { empty = before; last = after; begins = (refl, none); stopped = h.1; left = refl }))
      fails-over (Syntax n) h (inr same) = (h, same.0, ap (λ (b : Buffer O). b.output) same.1)
      fails-over (Config n fault) h (inr same) = (h, same.0, ap (λ (b : Buffer O). b.output) same.1)
      fails-over TooLong h (inr same) = (h, same.0, ap (λ (b : Buffer O). b.output) same.1)
      fails-over NoMemory h (inr same) = (h, same.0, ap (λ (b : Buffer O). b.output) same.1)
      fails-over Read h (inr same) = (h, same.0, ap (λ (b : Buffer O). b.output) same.1)
      fails-over (Syntax n) h (inl write) = absurd write
      fails-over (Config n fault) h (inl write) = absurd write
      fails-over TooLong h (inl write) = absurd write
      fails-over NoMemory h (inl write) = absurd write
      fails-over Read h (inl write) = absurd write

      module _ (mid : Buffer O) (run : RunsWriting calls.step calls.tells calls.device Step
          (buffer_contents out.contents) text old new before mid)
          (few : length after.held ≤ most_held)
          (kept : Keeps (buffer_contents out.contents mid) (buffer_contents out.contents after)) where
        -- the bytes of the output, if the buffer is empty
        appended : after.held ≡ [] → (bytes : List ℕ)
            → Appends (buffer_contents out.contents before) (buffer_contents out.contents mid) bytes
            → Appends (out.contents before.output) (out.contents after.output) bytes
        appended empty bytes wrote =
            subst (λ x. Appends x (out.contents after.output) bytes) (none-held out.contents before none)
            (subst (λ z. Appends (buffer_contents out.contents before) z bytes) (none-held out.contents after empty)
            (Appends-kept (buffer_contents out.contents before) (buffer_contents out.contents mid)
            (buffer_contents out.contents after) bytes wrote kept))

        -- all was written, and flushed
        pub runs-through : after.held ≡ [] → IsSent out.step flushes mid.output (Sent mid.held) after.output
            → RunsBuffered calls out flushes text old new before.output after.output
        runs-through nothing sent = record {
          ran = record {
            last = run.ran.last;
            transcribed = record {
              replies = run.ran.transcribed.replies;
              ran = run.ran.transcribed.ran;
              wrote =
                  appended nothing (transcript (events_in text) run.ran.transcribed.replies) run.ran.transcribed.wrote;
            };
            leaves = run.ran.leaves;
          };
          empty = before;
          full = mid;
          begins = (refl, none);
          written = run.written;
          sent = sent;
        }

        -- all was written, but not flushed
        pub stops-through : IsScript text (capacity most (calls.size old))
            → IsSent out.step flushes mid.output (Broken mid.held) after.output
            → FailsOver calls out flushes most Write text old new before.output after.output
        stops-through script unsent = (
          script,
          inr (record {
            empty = before;
            full = mid;
            last = after;
            begins = (refl, none);
            ran = run;
            unsent = unsent;
            left = refl;
            kept = kept;
            few = few;
          }),
        )
