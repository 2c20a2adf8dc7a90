-- The result of a script's run, and what each fault implies.
use Rattle.std.specs.Prelude.{
  ◌≡◌,
  ℕ,
  Bool,
  ◌<◌,
  ◌≤◌,
  List,
  [],
  ◌∷◌,
  ◌++◌,
  length,
  take,
  slice_get,
  Option,
  None,
  Some,
  Result,
  MatchResult,
}
use Rattle.std.specs.Io.KnownBytes.{Appends}
use Rattle.nvme_spec.specs.Blocks.{Device}
use Rattle.nvme_spec.specs.Configuration.{Capacity, config_fault}
use Rattle.nvme_event.specs.declared.event.FleetEvent.{FleetEvent}
use Rattle.nvme_event.specs.Replies.{Reply}
use Rattle.nvme_mailbox.specs.Fleets.{Fleet, Run, opening}
use Rattle.script_text.specs.Lines.{text_lines}
use Rattle.script_text.specs.Streams.{ReadCall}
use Rattle.script_text.specs.Reading.{longest, IsRead}
use Rattle.script_text.specs.declared.reading.ReadFault.{ReadFault}
use Rattle.nvme_transcript.specs.Transcript.{line_of, transcript}
use Rattle.nvme_grammar.specs.declared.script.Script.{Script}
use Rattle.nvme_grammar.specs.Kept.{kept_events}
use Rattle.nvme_grammar.specs.Script.{said, Begins, Says, IsFirstOutside, configuration_of, start_of, events_of}
use Rattle.nvme_program.specs.FaultKinds.{of_reading}
use Rattle.nvme_program.specs.declared.fault.ScriptFault.{ScriptFault}
use Rattle.nvme_program.specs.declared.fault.ScriptFault.TheVariants.{Syntax, Config, TooLong, NoMemory, Read, Write}

-- the events of a text, and the fleet that its configuration opens over a medium
abbrev pub events_in : List ℕ → List FleetEvent
events_in text = events_of (text_lines text)

abbrev pub fleet_of_text : List ℕ → Device → Fleet
fleet_of_text text device = opening (configuration_of (text_lines text)) device

-- Events ran, by some notion of a run, and the line of each and its reply was appended to what was written.
pub record Transcribes {S : Type 0} (Ran : S → List FleetEvent → List Reply → S → Type 0) (old : S)
    (events : List FleetEvent) (new : S) (before after : Option (List ℕ)) : Type 0 where
  pub replies : List Reply
  pub ran : Ran old events replies new
  pub wrote : Appends before after (transcript events replies)

-- Only the line of one event was cut: the events up to and including that one happened, and no later one; the lines
-- before it were written, and of its own the first bytes, but not all.
pub record StopsAt {S : Type 0} (Ran : S → List FleetEvent → List Reply → S → Type 0) (old : S)
    (events : List FleetEvent) (new : S) (before after : Option (List ℕ)) : Type 0 where
  pub index : ℕ
  pub event : FleetEvent
  pub is : slice_get events index ≡ Some event
  pub told : List Reply
  pub cut : Reply
  pub ran : Ran old (take index events ++ event ∷ []) (told ++ cut ∷ []) new
  pub bytes : ℕ
  pub part : bytes < length (line_of event cut)
  pub wrote : Appends before after (transcript (take index events) told ++ take bytes (line_of event cut))

-- the medium that a fleet leaves
abbrev pub Leaves : Fleet → Device → Type 0
Leaves fleet device = device ≡ fleet.site.device

-- a text ran to its end in the mailboxes, over a medium with these states before and after
pub record Runs (tells : Bool) (text : List ℕ) (old new : Device) (before after : Option (List ℕ)) : Type 0 where
  pub last : Fleet
  pub transcribed : Transcribes (Run tells) (fleet_of_text text old) (events_in text) last before after
  pub leaves : Leaves last new

-- it stopped there at a line that could not be written
pub record Stops (tells : Bool) (text : List ℕ) (old new : Device) (before after : Option (List ℕ)) : Type 0 where
  pub last : Fleet
  pub stopped : StopsAt (Run tells) (fleet_of_text text old) (events_in text) last before after
  pub leaves : Leaves last new

-- a text that is a script, whose configuration is accepted
pub record IsScript (text : List ℕ) (size : Capacity) : Type 0 where
  pub short : length text ≤ longest
  pub grammar : Begins (text_lines text)
  pub accepted : config_fault (configuration_of (text_lines text)) size ≡ None

-- a script that was read: its text, its meaning, and its events as they are stored
pub record IsReady (text : List ℕ) (script : Script) : Type 0 where
  pub short : length text ≤ longest
  pub grammar : Begins (text_lines text)
  pub says : Says (said (text_lines text)) script
  pub events : kept_events text script.events.items ≡ events_in text

-- what a fault before the first event implies for the text
abbrev pub IsEarlyFault : ScriptFault → List ℕ → Capacity → Type 0
IsEarlyFault (Syntax n) text size = (length text ≤ longest) × IsFirstOutside n (text_lines text)
IsEarlyFault (Config n fault) text size =
    (length text ≤ longest) × Begins (text_lines text) × (start_of (text_lines text) ≡ Some n)
    × (config_fault (configuration_of (text_lines text)) size ≡ Some fault)
IsEarlyFault NoMemory text size = Unit {0}
IsEarlyFault TooLong text size = ⊥
IsEarlyFault Read text size = ⊥
IsEarlyFault Write text size = ⊥

-- The text of a run was read by its reads and no others, and no read came after them: a fault of reading is the run's
-- own, and with a text the run continued.
abbrev pub ReadsThen : {S : Type 0} → (S → ReadCall → S → Type 0) → (S → Option (List ℕ)) → S → S → ScriptFault
    → (List ℕ → Type 0) → Type 0
ReadsThen step remaining old new fault With = (outcome : Result (List ℕ) ReadFault)
    × IsRead step remaining old outcome new × MatchResult outcome With (λ reading. fault ≡ of_reading reading)

abbrev pub IsWrite : ScriptFault → Type 0
IsWrite Write = Unit {0}
IsWrite _ = ⊥
