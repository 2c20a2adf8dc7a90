-- Statements of the law `output_is_called`: the calls of its output that a script's run makes, by how it ended.
use Rattle.std.specs.Prelude.{◌<◌, ◌⊎◌, ℕ, Bool, true, false, List, ◌++◌, length, take}
use Rattle.nvme_medium.specs.declared.medium.Medium as medium
use Rattle.script_text.specs.Pages.{most_text}
use Rattle.script_text.specs.Streams.{Calls, OutputCall, StepsOutput}
use Rattle.script_text.specs.Writing.{SendsBytes}
use Rattle.script_text.specs.declared.stream.Sink as sink
use Rattle.nvme_transcript.specs.Transcript.{line_of, transcript}
use Rattle.nvme_script.specs.Buffering.{most_held}
use Rattle.nvme_script.specs.Faults.{events_in}
use Rattle.nvme_script.specs.ProgramRuns.{RunsBuffered, RunsUnsent, StopsBuffered}

-- The output was called for these bytes, by these calls and no others: they were written to it in order, each once, and
-- then it was flushed; or a call failed, which was the last.
abbrev pub Gets : {O : Type 0} → sink.Ghosts O → (O → Bool → O → Type 0) → List ℕ → Bool → O → O → Type 0
Gets out flushes bytes done before after =
    (calls : List OutputCall) × SendsBytes bytes calls done × Calls (StepsOutput out.step flushes) before calls after

module _ {M O : Type 0} (calls : medium.Ghosts M) (out : sink.Ghosts O) (flushes : O → Bool → O → Type 0) where
  -- The output of a successful run got its whole transcript, and no call failed.
  abbrev pub DoneIsSent : Type 0
  DoneIsSent =
      (text : List ℕ) (old new : M) (before after : O) (h : RunsBuffered calls out flushes text old new before after)
      → Gets out flushes (transcript (events_in text) h.ran.transcribed.replies) true before after

  -- A run stops at a line only after a call of the output that failed, or at a line that is longer than a text may be.
  abbrev pub StopsByACall : Type 0
  StopsByACall =
      (text : List ℕ) (old new : M) (before after : O) (h : StopsBuffered calls out text old new before after)
      → Gets out flushes (transcript (take h.stopped.ran.stopped.index (events_in text)) h.stopped.ran.stopped.told
      ++ line_of h.stopped.ran.stopped.event h.stopped.ran.stopped.cut) false before after
      ⊎ (most_text < length (line_of h.stopped.ran.stopped.event h.stopped.ran.stopped.cut))

  -- A run whose lines were all written ends with `Write` only after a failed call of the output.
  abbrev pub UnsentByACall : Type 0
  UnsentByACall =
      (text : List ℕ) (old new : M) (before after : O) (h : RunsUnsent calls out flushes text old new before after)
      → Gets out flushes (transcript (events_in text) h.ran.ran.transcribed.replies) false before after

-- A run stops at a line only after more bytes than a buffer holds.
abbrev pub StopsBeyondABuffer : {M O : Type 0} → medium.Ghosts M → sink.Ghosts O → Type 0
StopsBeyondABuffer {M} {O} calls out =
    (text : List ℕ) (old new : M) (before after : O) (h : StopsBuffered calls out text old new before after)
    → most_held < length (transcript (take h.stopped.ran.stopped.index (events_in text)) h.stopped.ran.stopped.told
    ++ line_of h.stopped.ran.stopped.event h.stopped.ran.stopped.cut)
