-- A session from its first script to its end.
use Rattle.std.specs.Prelude.{◌≡◌, ◌≢◌, ◌⊎◌, ℕ, Bool, true, false, List, Option, None, Some, Result, MatchResult}
use Rattle.std.specs.Io.KnownBytes.{Keeps}
use Rattle.nvme_spec.specs.Blocks.{Device}
use Rattle.nvme_spec.specs.Configuration.{Capacity, config_fault}
use Rattle.nvme_spec.specs.declared.config.ConfigFault.{ConfigFault}
use Rattle.nvme_spec.specs.declared.config.ConfigFault.TheVariants.{NoMemory as WantOfMemory}
use Rattle.nvme_spec.specs.MediumCalls.{MediumCall}
use Rattle.nvme_fleet.specs.FleetStates.{Layers}
use Rattle.script_text.specs.Lines.{text_lines}
use Rattle.script_text.specs.Reading.{IsRead}
use Rattle.script_text.specs.Streams.{ReadCall, WriteCall}
use Rattle.script_text.specs.declared.reading.ReadFault.{ReadFault}
use Rattle.nvme_grammar.specs.Script.{Begins, start_of}
use Rattle.nvme_ns.specs.declared.refusal.BrokenRule.{BrokenRule}
use Rattle.nvme_program.specs.declared.fault.ScriptFault.{ScriptFault}
use Rattle.nvme_program.specs.declared.fault.ScriptFault.TheVariants.{Syntax, Config, TooLong, NoMemory, Read, Write}
use Rattle.nvme_subsys.specs.OverMedium.{OverMedium, over}
use Rattle.nvme_program.specs.FaultKinds.{of_reading}
use Rattle.nvme_script.specs.Faults.{IsScript, IsEarlyFault, events_in}
use Rattle.nvme_script.specs.ScriptCalls.{RanCalling, layers_of_text}
use Rattle.nvme_script.specs.ScriptWrites.{RunsWriting, StopsWriting, TranscribesBy}
use Rattle.nvme_live.specs.Saying.{LacksRoom, with_feed}
use Rattle.script_text.specs.Writing.{Broken, Sending, Sent}
use Rattle.nvme_live.specs.Streams.{LineCall, SendsBy}
use Rattle.nvme_live.specs.SetUps.{SetUp, nothing_set_up, numbered_reason}
use Rattle.nvme_live.specs.Standings.{Standing, Setting, Running, Over, Starts, refused_text}
use Rattle.nvme_live.specs.AnswerCalls.{TurnOver}
use Rattle.nvme_live.specs.Conversations.{Ends, EndsBy, standing_over}

-- the content of the medium, in this state of a session: the old one until it runs
abbrev pub device_in : Device → Standing → Device
device_in d (Setting s) = d
device_in d (Running l) = l.subsystem.device
device_in d (Over k fault) = d

-- A session ended with this property, over this medium, which is returned; and its content is what the session left.
pub record Rests {M : Type 0} (device : M → Device) (Ended : OverMedium Standing M → Type 0) (d : Device) (left : M)
    : Type 0 where
  pub last : OverMedium Standing M
  pub ended : Ended last
  pub medium : left ≡ last.medium
  pub rests : device left ≡ device_in d last.state

-- The effect of `start`, the n-th line, if its fleet is not opened, or its answer is not sent. Memory for the fleet of
-- a configuration without a fault was refused; or the answer with the fault does not fit.
abbrev pub StartFails : {W : Type 0} → (W → Sending → W → Type 0) → ScriptFault → Capacity → Device → ℕ → SetUp → W → W
    → Type 0
StartFails Sends (Config k fault) size d n s before after =
    (k ≡ n) × (config_fault s.configuration size ≡ Some fault)
    × Sends before (Sent (with_feed (refused_text n fault (numbered_reason s size)))) after
StartFails Sends Write size d n s before after =
    (answer : List ℕ) × (new : Standing) × Starts (config_fault s.configuration size) size d n s answer new
    × Sends before (Broken answer) after
StartFails Sends NoMemory size d n s before after =
    ((config_fault s.configuration size ≡ None)
    ⊎ ((fault : ConfigFault) × (config_fault s.configuration size ≡ Some fault)
    × LacksRoom (with_feed (refused_text n fault (numbered_reason s size)))))
    × (after ≡ before)
StartFails Sends (Syntax k) size d n s before after = ⊥
StartFails Sends TooLong size d n s before after = ⊥
StartFails Sends Read size d n s before after = ⊥

-- a sink was flushed, with its bytes unchanged
abbrev pub IsFlushed : {W : Type 0} → (W → Bool → W → Type 0) → (W → Option (List ℕ)) → Bool → W → W → Type 0
IsFlushed flush contents done old new = flush old done new × Keeps (contents old) (contents new)

-- The events of a script's text ran, over this medium, with this effect. Its transcript was written line by line, and
-- then flushed once.
pub record RunsTo {M W : Type 0} (step : M → MediumCall → M → Type 0) (tells : Bool) (device : M → Device)
    (write : W → WriteCall → W → Type 0) (flush : W → Bool → W → Type 0) (contents : W → Option (List ℕ))
    (text : List ℕ) (old : M) (last : Layers) (new : M) (before after : W) : Type 0 where
  pub written : W
  pub transcribed : TranscribesBy (RanCalling step tells) write contents (layers_of_text device text old)
      (events_in text) (over last new) before written
  pub flushed : IsFlushed flush contents true written after

-- The session after its first script, by its `start`: without one the configuration is empty, and no call was made of
-- the medium or the output; with one it runs, and has written its transcript.
abbrev pub Opens : {M W : Type 0} → (M → MediumCall → M → Type 0) → Bool → (M → Device) → (W → WriteCall → W → Type 0)
    → (W → Bool → W → Type 0) → (W → Option (List ℕ)) → Capacity → List ℕ → M → Option ℕ → OverMedium Standing M → W → W
    → Type 0
Opens step tells device write flush contents size text medium None first before told =
    Begins (text_lines text) × (first ≡ over (Setting nothing_set_up) medium) × (told ≡ before)
Opens {M} step tells device write flush contents size text medium (Some n) first before told =
    IsScript text size × (last : Layers) × (mid : M)
    × RunsTo step tells device write flush contents text medium last mid before told
    × (first ≡ over (Running last) mid)

-- A session from the end of its script to an end with this property.
pub record Lives {M W : Type 0} (step : M → MediumCall → M → Type 0) (tells : Bool) (device : M → Device)
    (write : W → WriteCall → W → Type 0) (flush : W → Bool → W → Type 0) (contents : W → Option (List ℕ))
    (size : Capacity)
    (text : List ℕ) (medium : M) (before : W) (left : M)
    (Ended : OverMedium Standing M → W → OverMedium Standing M → Type 0) : Type 0 where
  pub first : OverMedium Standing M
  pub told : W
  pub opened : Opens step tells device write flush contents size text medium (start_of (text_lines text)) first
      before told
  pub rests : Rests device (Ended first told) (device medium) left

-- The transcript of a script that ran was written whole, and its flush failed.
pub record RunsUnflushed {M W : Type 0} (step : M → MediumCall → M → Type 0) (tells : Bool) (device : M → Device)
    (write : W → WriteCall → W → Type 0) (flush : W → Bool → W → Type 0) (contents : W → Option (List ℕ))
    (text : List ℕ) (old new : M) (before after : W) : Type 0 where
  pub written : W
  pub ran : RunsWriting step tells device write contents text old new before written
  pub unflushed : IsFlushed flush contents false written after

-- The script stopped at a line of its transcript that was not written whole; or all were, and the flush failed.
abbrev pub ScriptStops : {M W : Type 0} → (M → MediumCall → M → Type 0) → Bool → (M → Device)
    → (W → WriteCall → W → Type 0) → (W → Bool → W → Type 0) → (W → Option (List ℕ)) → Capacity → List ℕ → M → M → W → W
    → Type 0
ScriptStops step tells device write flush contents size text medium new before after =
    IsScript text size × (StopsWriting step tells device write contents text medium new before after
    ⊎ RunsUnflushed step tells device write flush contents text medium new before after)

-- The answer to `start` if its fleet was refused, for this reason.
abbrev pub StartRefused : {W : Type 0} → (W → Sending → W → Type 0) → ScriptFault → ℕ → ConfigFault
    → Option (ℕ × BrokenRule) → W → W → Type 0
StartRefused Sends (Config k why) n fault reason before after =
    (k ≡ n) × (why ≡ fault) × (fault ≢ WantOfMemory)
    × Sends before (Sent (with_feed (refused_text n fault reason))) after
StartRefused Sends Write n fault reason before after =
    (fault ≢ WantOfMemory) × Sends before (Broken (with_feed (refused_text n fault reason))) after
StartRefused Sends NoMemory n fault reason before after =
    ((fault ≡ WantOfMemory) ⊎ LacksRoom (with_feed (refused_text n fault reason))) × (after ≡ before)
StartRefused Sends (Syntax k) n fault reason before after = ⊥
StartRefused Sends TooLong n fault reason before after = ⊥
StartRefused Sends Read n fault reason before after = ⊥

-- A script that does not run to its end: it is refused, and neither the output nor the medium was called; or it stops.
abbrev pub FailsFirst : {M W : Type 0} → (M → MediumCall → M → Type 0) → Bool → (M → Device)
    → (W → WriteCall → W → Type 0) → (W → Bool → W → Type 0) → (W → Option (List ℕ)) → Capacity → List ℕ
    → ScriptFault → M → M
    → W → W → Type 0
FailsFirst step tells device write flush contents size text fault medium left old new =
    (IsEarlyFault fault text size × (left ≡ medium) × (new ≡ old))
    ⊎ ((fault ≡ Write) × ScriptStops step tells device write flush contents size text medium left old new)

-- The other parts of a session: its input, its output, and its medium.
pub record Surroundings (R W M : Type 0) : Type 0 where
  pub reader : R
  pub writer : W
  pub medium : M

abbrev pub surroundings : {R W M : Type 0} → R → W → M → Surroundings R W M
surroundings r w m = record { reader = r; writer = w; medium = m }

-- What a fault implies: it is one of the script, and the input was not called; or one of the session.
abbrev pub Fails : {M R W : Type 0} → (M → MediumCall → M → Type 0) → Bool → (M → Device) → (R → LineCall → R → Type 0)
    → (W → WriteCall → W → Type 0) → (W → Bool → W → Type 0) → (W → Option (List ℕ)) → Capacity → List ℕ → ScriptFault
    → Surroundings R W M → Surroundings R W M → Type 0
Fails step tells device Reads write flush contents size text fault old new =
    (FailsFirst step tells device write flush contents size text fault old.medium new.medium old.writer new.writer
    × (new.reader ≡ old.reader))
    ⊎ Lives step tells device write flush contents size text old.medium old.writer new.medium (λ first told last.
    EndsBy fault (TurnOver step tells size (device old.medium)) Reads (SendsBy write flush contents) standing_over 1
    first last old.reader new.reader told new.writer)

-- The script was read by its reads and no others. If it could not be read, the fault is that, and neither the input nor
-- the output nor the medium was called; else its text has this property.
abbrev pub FailsBehindReading : {S A : Type 0} → (S → ReadCall → S → Type 0) → (S → Option (List ℕ)) → S → S
    → ScriptFault → A → A → (List ℕ → Type 0) → Type 0
FailsBehindReading read remaining script after fault old new With = (outcome : Result (List ℕ) ReadFault)
    × IsRead read remaining script outcome after
    × MatchResult outcome With (λ reading. (fault ≡ of_reading reading) × (new ≡ old))

-- A session that came to the end of its input.
abbrev pub LivesOn : {M R W : Type 0} → (M → MediumCall → M → Type 0) → Bool → (M → Device)
    → (R → LineCall → R → Type 0) → (W → WriteCall → W → Type 0) → (W → Bool → W → Type 0)
    → (W → Option (List ℕ)) → Capacity
    → List ℕ → Surroundings R W M → Surroundings R W M → Type 0
LivesOn step tells device Reads write flush contents size text old new =
    Lives step tells device write flush contents size text old.medium old.writer new.medium (λ first told last.
    Ends (TurnOver step tells size (device old.medium)) Reads (SendsBy write flush contents) 1 first last old.reader
    new.reader told new.writer)
