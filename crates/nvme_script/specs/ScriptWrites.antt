-- Writing the lines of a transcript: each is written whole by its own writes, before the next event.
use Rattle.std.specs.Prelude.{◌≡◌, ℕ, Bool, List, [], ◌∷◌, take, Option, Ok, Err}
use Rattle.std.specs.declared.io.Error.{Error}
use Rattle.nvme_spec.specs.Blocks.{Device}
use Rattle.nvme_spec.specs.Configuration.{Capacity}
use Rattle.nvme_spec.specs.MediumCalls.{MediumCall}
use Rattle.nvme_event.specs.declared.event.FleetEvent.{FleetEvent}
use Rattle.nvme_event.specs.Replies.{Reply}
use Rattle.script_text.specs.Streams.{WriteCall}
use Rattle.script_text.specs.Writing.{IsWritten}
use Rattle.nvme_transcript.specs.Transcript.{line_of}
use Rattle.nvme_transcript.specs.Writing.{WritesLine}
use Rattle.nvme_program.specs.declared.fault.ScriptFault.{ScriptFault}
use Rattle.nvme_program.specs.declared.fault.ScriptFault.TheVariants.{Write}
use Rattle.nvme_script.specs.Faults.{IsScript, IsEarlyFault, Transcribes, StopsAt, events_in}
use Rattle.nvme_script.specs.ScriptCalls.{RunsCalling, StopsCalling}

-- the line of each event and its reply
abbrev pub lines_of : List FleetEvent → List Reply → List (List ℕ)
lines_of [] replies = []
lines_of (event ∷ events) [] = []
lines_of (event ∷ events) (reply ∷ replies) = line_of event reply ∷ lines_of events replies

-- lines were written in order, each whole by its own writes and no others
abbrev pub WritesLines : {W : Type 0} → (W → WriteCall → W → Type 0) → List (List ℕ) → W → W → Type 0
WritesLines write [] old new = new ≡ old
WritesLines {W} write (line ∷ lines) old new =
    (mid : W) × IsWritten {T = Unit {0}} {E = Error} write line old (Ok tt) mid × WritesLines write lines mid new

-- a line was not written whole: by its writes, the last of which failed, or because it is longer than a text may be
abbrev pub FailsLine : {W : Type 0} → (W → WriteCall → W → Type 0) → List ℕ → W → W → Type 0
FailsLine write line old new = (fault : Error) × WritesLine {T = Unit {0}} write line old (Err fault) new

-- events ran, and their transcript was written by the writes of its lines
pub record TranscribesBy {S W : Type 0} (Ran : S → List FleetEvent → List Reply → S → Type 0)
    (write : W → WriteCall → W → Type 0) (contents : W → Option (List ℕ)) (old : S) (events : List FleetEvent) (new : S)
    (before after : W) : Type 0 where
  pub transcribed : Transcribes Ran old events new (contents before) (contents after)
  pub written : WritesLines write (lines_of events transcribed.replies) before after

-- the line of an event was not written whole: those before it were, and no write was made after the one that failed
pub record StopsAtBy {S W : Type 0} (Ran : S → List FleetEvent → List Reply → S → Type 0)
    (write : W → WriteCall → W → Type 0) (contents : W → Option (List ℕ)) (old : S) (events : List FleetEvent) (new : S)
    (before after : W) : Type 0 where
  pub stopped : StopsAt Ran old events new (contents before) (contents after)
  pub between : W
  pub written : WritesLines write (lines_of (take stopped.index events) stopped.told) before between
  pub failed : FailsLine write (line_of stopped.event stopped.cut) between after

-- a text ran to its end over this medium, and its transcript was written
pub record RunsWriting {M W : Type 0} (step : M → MediumCall → M → Type 0) (tells : Bool) (device : M → Device)
    (write : W → WriteCall → W → Type 0) (contents : W → Option (List ℕ)) (text : List ℕ) (old new : M)
    (before after : W)
    : Type 0 where
  pub ran : RunsCalling step tells device text old new (contents before) (contents after)
  pub written : WritesLines write (lines_of (events_in text) ran.transcribed.replies) before after

-- it stopped at a line that could not be written
pub record StopsWriting {M W : Type 0} (step : M → MediumCall → M → Type 0) (tells : Bool) (device : M → Device)
    (write : W → WriteCall → W → Type 0) (contents : W → Option (List ℕ)) (text : List ℕ) (old new : M)
    (before after : W)
    : Type 0 where
  pub ran : StopsCalling step tells device text old new (contents before) (contents after)
  pub between : W
  pub written : WritesLines write (lines_of (take ran.stopped.index (events_in text)) ran.stopped.told) before between
  pub failed : FailsLine write (line_of ran.stopped.event ran.stopped.cut) between after

-- what a fault implies for the text, for the medium before and after, and for the writer before and after
abbrev pub IsFault : {M W : Type 0} → (M → MediumCall → M → Type 0) → Bool → (M → Device) → (W → WriteCall → W → Type 0)
    → (W → Option (List ℕ)) → ScriptFault → List ℕ → Capacity → M → M → W → W → Type 0
IsFault step tells device write contents Write text size old new before after =
    IsScript text size × StopsWriting step tells device write contents text old new before after
IsFault step tells device write contents fault text size old new before after =
    IsEarlyFault fault text size
