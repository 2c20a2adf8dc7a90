-- Statements of the law `session_is_a_script`: the script of a session is its first script, if that has a `start`, and
-- then the saved lines.
use Rattle.std.specs.Prelude.{
  ◌≡◌,
  ◌≤◌,
  ◌<◌,
  ◌-◌,
  ◌^◌,
  ℕ,
  Bool,
  true,
  List,
  [],
  ◌∷◌,
  ◌++◌,
  length,
  codes,
  Option,
  None,
  Some,
}
use Rattle.std.specs.Io.KnownBytes.{Appends}
use Rattle.nvme_spec.specs.Blocks.{Device}
use Rattle.nvme_spec.specs.Configuration.{Capacity, Configuration, config_fault}
use Rattle.nvme_spec.specs.declared.config.ConfigFault.{ConfigFault}
use Rattle.nvme_spec.specs.MediumCalls.{MediumCall}
use Rattle.nvme_event.specs.declared.event.FleetEvent.{FleetEvent}
use Rattle.nvme_event.specs.Replies.{Reply}
use Rattle.nvme_subsys.specs.OverMedium.{OverMedium}
use Rattle.nvme_fleet.specs.FleetStates.{Layers, opening_layers}
use Rattle.nvme_fleet.specs.Layers.{Run}
use Rattle.script_text.specs.Lines.{text_lines}
use Rattle.script_text.specs.Reading.{longest}
use Rattle.nvme_grammar.specs.Script.{Begins, configuration_of, start_of}
use Rattle.nvme_script.specs.Faults.{IsScript, IsEarlyFault, Runs, Transcribes, events_in}
use Rattle.nvme_program.specs.declared.fault.ScriptFault.TheVariants.{Config}
use Rattle.nvme_live.specs.AnswerCalls.{TurnOver}
use Rattle.nvme_live.specs.Conversations.{Converses}
use Rattle.nvme_live.specs.Keeping.{LookWell, RunAmidLooks, event_answers, kept_lines}
use Rattle.nvme_live.specs.Lives.{Opens}
use Rattle.nvme_live.specs.Saying.{with_feed}
use Rattle.nvme_live.specs.Standings.{Standing, Setting, Running, Over}
use Rattle.nvme_live.specs.Streams.{LineCall, ReadsBy, SendsBy}
use Rattle.script_text.specs.Streams.{WriteCall}

-- lines as a text: a line feed ends each
abbrev pub text_of : List (List ℕ) → List ℕ
text_of [] = []
text_of (line ∷ lines) = with_feed line ++ text_of lines

-- a text after the first script, if that has a `start`; otherwise alone
abbrev pub behind : Option ℕ → List ℕ → List ℕ → List ℕ
behind None first text = text
behind (Some n) first text = first ++ 10 ∷ text

abbrev pub session_text : List ℕ → List (List ℕ) → List (List ℕ) → List ℕ
session_text first lines answers = behind (start_of (text_lines first)) first (text_of (kept_lines lines answers))

-- A text is a script except for its length; its configuration is accepted, and its events ran from its opening to here,
-- with this transcript after whatever was written before.
pub record IsPlayed (Ran : Layers → List FleetEvent → List Reply → Layers → Type 0) (size : Capacity) (d : Device)
    (text said : List ℕ) (last : Layers) : Type 0 where
  pub grammar : Begins (text_lines text)
  pub starts : (k : ℕ) × (start_of (text_lines text) ≡ Some k)
  pub accepted : config_fault (configuration_of (text_lines text)) size ≡ None
  pub ran : (before : List ℕ) → Transcribes Ran (opening_layers (configuration_of (text_lines text)) d)
      (events_in text) last (Some before) (Some (before ++ said))

-- A text begins a script without `start`; with a `start` after it, this would be its configuration.
pub record IsSetUp (text said : List ℕ) (c : Configuration) : Type 0 where
  pub grammar : Begins (text_lines text)
  pub unstarted : start_of (text_lines text) ≡ None
  pub sets : configuration_of (text_lines (text ++ codes "start")) ≡ c
  pub silent : said ≡ []

-- A text is a script except for its length and its configuration, whose first fault this is.
pub record IsRefused (size : Capacity) (text said : List ℕ) (why : ConfigFault) : Type 0 where
  pub grammar : Begins (text_lines text)
  pub starts : (k : ℕ) × (start_of (text_lines text) ≡ Some k)
  pub refused : config_fault (configuration_of (text_lines text)) size ≡ Some why
  pub silent : said ≡ []

-- the text of a session, and its configuration and events, by the state of the session
abbrev pub IsKeptAs : (Layers → List FleetEvent → List Reply → Layers → Type 0) → Capacity → Device → List ℕ → List ℕ
    → Standing → Type 0
IsKeptAs Ran size d text said (Setting s) = IsSetUp text said s.configuration
IsKeptAs Ran size d text said (Running last) = IsPlayed Ran size d text said last
IsKeptAs Ran size d text said (Over k why) = IsRefused size text said why

-- The transcript of the first script, and then the answers of a session's events, are those of the session's text, by
-- some notion of a run.
pub record IsAScript (Ran : Layers → List FleetEvent → List Reply → Layers → Type 0) (size : Capacity) (d : Device)
    (first : List ℕ) (lines answers : List (List ℕ)) (last : Standing) (before told : Option (List ℕ)) : Type 0 where
  pub said : List ℕ
  pub wrote : Appends before told said
  pub kept : IsKeptAs Ran size d (session_text first lines answers) (said ++ event_answers lines answers) last

-- For a session from its first line, after its first script, each of whose queries of blocks left the medium unchanged:
-- its text is a script, with the session's configuration, and the session's run.
abbrev pub SessionIsAScript : {M R W : Type 0} → (M → MediumCall → M → Type 0) → Bool → (M → Device)
    → (R → LineCall → R → Type 0) → (R → Option (List ℕ)) → (W → WriteCall → W → Type 0) → (W → Bool → W → Type 0)
    → (W → Option (List ℕ)) → Type 0
SessionIsAScript {M} {R} {W} step tells device read remaining write flush contents =
    (size : Capacity) → (first : List ℕ) → (medium : M) → (from last : OverMedium Standing M) → (next : ℕ)
    → (unread left : R) → (before told after : W)
    → Opens step tells device write flush contents size first medium (start_of (text_lines first)) from before told
    → (h : Converses (TurnOver step tells size (device medium)) (ReadsBy read remaining)
    (SendsBy write flush contents) 1 from next last unread left told after)
    → LookWell tells 1 h.lines h.answers
    → IsAScript (Run tells) size (device medium) first h.lines h.answers last.state (contents before)
    (contents told)

-- The same for any session, whose run then includes queries of blocks.
abbrev pub SessionIsAScriptAmidLooks : {M R W : Type 0} → (M → MediumCall → M → Type 0) → Bool → (M → Device)
    → (R → LineCall → R → Type 0) → (R → Option (List ℕ)) → (W → WriteCall → W → Type 0) → (W → Bool → W → Type 0)
    → (W → Option (List ℕ)) → Type 0
SessionIsAScriptAmidLooks {M} {R} {W} step tells device read remaining write flush contents =
    (size : Capacity) → (first : List ℕ) → (medium : M) → (from last : OverMedium Standing M) → (next : ℕ)
    → (unread left : R) → (before told after : W)
    → Opens step tells device write flush contents size first medium (start_of (text_lines first)) from before told
    → (h : Converses (TurnOver step tells size (device medium)) (ReadsBy read remaining)
    (SendsBy write flush contents) 1 from next last unread left told after)
    → IsAScript (RunAmidLooks tells) size (device medium) first h.lines h.answers last.state (contents before)
    (contents told)

-- A text that was played, and is not too long, is a script as in the contract of `run_script`, and ran as it states.
abbrev pub PlayedIsARun : Type 0
PlayedIsARun =
    (tells : Bool) → (size : Capacity) → (d : Device) → (text said : List ℕ) → (last : Layers)
    → IsPlayed (Run tells) size d text said last → length text ≤ longest
    → IsScript text size
    × ((before : List ℕ) → Runs tells text d last.subsystem.device (Some before) (Some (before ++ said)))

-- One that was refused, and is not too long, is refused by `run_script` with the same fault, at its `start`.
abbrev pub RefusedIsAFault : Type 0
RefusedIsAFault =
    (size : Capacity) → (text said : List ℕ) → (why : ConfigFault) → (h : IsRefused size text said why)
    → length text ≤ longest → IsEarlyFault (Config h.starts.0 why) text size

-- Over a medium that reveals its content, without faults, each run of the text as a script writes the answers of the
-- session's events, and leaves the medium as the session did.
abbrev pub ReplaysAlike : Type 0
ReplaysAlike =
    (size : Capacity) → (d new : Device) → (text said : List ℕ) → (last : Layers) → (before after : Option (List ℕ))
    → IsPlayed (Run true) size d text said last → last.subsystem.device.failures ≡ d.failures
    → Runs true text d new before after → new.failures ≡ d.failures → d.failures < 2 ^ 64 - 1
    → Appends before after said × (new ≡ last.subsystem.device)
