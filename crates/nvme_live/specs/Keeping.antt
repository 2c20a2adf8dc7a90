-- A session that is saved as a script: its lines without queries, and without those answered `!`.
use Rattle.std.specs.Prelude.{
  ◌≡◌,
  ◌≢◌,
  ◌≤◌,
  ◌+◌,
  ◌==◌,
  ◌&&◌,
  ℕ,
  Bool,
  IsTrue,
  true,
  false,
  not,
  List,
  [],
  ◌∷◌,
  ◌++◌,
  Option,
  None,
  Some,
}
use Rattle.nvme_spec.specs.Blocks.{Device, Told}
use Rattle.nvme_spec.specs.Configuration.{Capacity}
use Rattle.nvme_event.specs.declared.event.FleetEvent.{FleetEvent}
use Rattle.nvme_event.specs.Replies.{Reply}
use Rattle.nvme_fleet.specs.FleetStates.{Layers, fleet_in}
use Rattle.nvme_mailbox.specs.Fleets as mailboxes
use Rattle.nvme_fleet.specs.Layers.{Run, Step}
use Rattle.nvme_grammar.specs.Line.{line_at}
use Rattle.nvme_grammar.specs.Script.{events_of}
use Rattle.nvme_grammar.specs.declared.line.Line.{Line}
use Rattle.nvme_grammar.specs.declared.line.Line.TheVariants.{Blank, Controller, Namespace, Attached, Start, Event}
use Rattle.nvme_script.specs.Faults.{Transcribes}
use Rattle.live_text.specs.Faults.{refusal}
use Rattle.live_text.specs.Looking.{is_looking}
use Rattle.live_text.specs.declared.fault.Why.TheVariants.{MediumFailed}
use Rattle.live_text.specs.declared.looking.Looking.TheVariants as look
use Rattle.live_text.specs.declared.asking.Asked.{Asked}
use Rattle.live_text.specs.declared.asking.Asked.TheVariants.{Looks}
use Rattle.live_text.specs.Asking.{asked}
use Rattle.nvme_live.specs.Saying.{with_feed}
use Rattle.nvme_live.specs.Standings.{Standing, Running, Session}

-- an answer whose first byte is `!`
abbrev pub is_refusal : List ℕ → Bool
is_refusal [] = false
is_refusal (b ∷ bs) = b == 33

-- whether a line with its answer is saved
abbrev pub is_kept : List ℕ → List ℕ → Bool
is_kept line answer = not (is_looking line) && not (is_refusal answer)

abbrev pub is_event : Option Line → Bool
is_event None = false
is_event (Some Blank) = false
is_event (Some (Controller k)) = false
is_event (Some (Namespace n)) = false
is_event (Some (Attached k n)) = false
is_event (Some Start) = false
is_event (Some (Event event)) = true

abbrev pub line_if : Bool → List ℕ → List (List ℕ) → List (List ℕ)
line_if true line lines = line ∷ lines
line_if false line lines = lines

abbrev pub bytes_if : Bool → List ℕ → List ℕ → List ℕ
bytes_if true bytes rest = bytes ++ rest
bytes_if false bytes rest = rest

-- the saved lines, and the answers of the events among them
abbrev pub kept_lines : List (List ℕ) → List (List ℕ) → List (List ℕ)
kept_lines [] answers = []
kept_lines (line ∷ lines) [] = []
kept_lines (line ∷ lines) (answer ∷ answers) = line_if (is_kept line answer) line (kept_lines lines answers)

abbrev pub event_answers : List (List ℕ) → List (List ℕ) → List ℕ
event_answers [] answers = []
event_answers (line ∷ lines) [] = []
event_answers (line ∷ lines) (answer ∷ answers) =
    bytes_if (is_kept line answer && is_event (line_at line)) answer (event_answers lines answers)

-- a query of blocks, which makes calls of the medium
abbrev pub is_block_look : Asked → Bool
is_block_look (Looks (look.Blocks m slba count)) = true
is_block_look asks = false

-- The n-th line leaves the medium, if it is a query of blocks: the medium reveals its content, and did not fail.
abbrev pub LooksWell : Bool → ℕ → List ℕ → List ℕ → Type 0
LooksWell tells n line answer =
    is_block_look (asked line) ≡ true → IsTrue tells × (answer ≢ with_feed (refusal n MediumFailed))

-- each line does, from the n-th
abbrev pub LookWell : Bool → ℕ → List (List ℕ) → List (List ℕ) → Type 0
LookWell tells n [] answers = Unit {0}
LookWell tells n (line ∷ lines) [] = Unit {0}
LookWell tells n (line ∷ lines) (answer ∷ answers) =
    LooksWell tells n line answer × LookWell tells (n + 1) lines answers

-- Blocks were read, or none. All else is unchanged; so is the medium's content, if it reveals that, and its failure
-- count has not fallen.
pub record Looked (tells : Bool) (old new : Layers) : Type 0 where
  pub content : Told tells (new.subsystem.device.content ≡ old.subsystem.device.content)
  pub count : old.subsystem.device.failures ≤ new.subsystem.device.failures
  pub world : new.subsystem.world ≡ old.subsystem.world
  pub controllers : new.subsystem.controllers ≡ old.subsystem.controllers
  pub drivers : new.drivers ≡ old.drivers

-- Events in order, and their replies; before each and after the last, blocks may be read.
abbrev pub RunAmidLooks : Bool → Layers → List FleetEvent → List Reply → Layers → Type 0
RunAmidLooks tells old [] [] new = Looked tells old new
RunAmidLooks tells old (event ∷ events) (reply ∷ later) new =
    (seen : Layers) × (mid : Layers) × Looked tells old seen × Step tells seen event reply mid
    × RunAmidLooks tells mid events later new
RunAmidLooks tells old [] (reply ∷ later) new = ⊥
RunAmidLooks tells old (event ∷ events) [] new = ⊥

-- Lines of an open fleet, and their answers: the saved ones ran, by some notion of a run, and the answers of the events
-- are the transcript of that run, after whatever was written before.
pub record RunsOn (Ran : Layers → List FleetEvent → List Reply → Layers → Type 0) (old : Layers)
    (lines answers : List (List ℕ)) (new : Standing) : Type 0 where
  pub last : Layers
  pub is : new ≡ Running last
  pub ran : (before : List ℕ) → Transcribes Ran old (events_of (kept_lines lines answers)) last (Some before)
      (Some (before ++ event_answers lines answers))

-- After `start`, if each query of blocks left the medium unchanged, the saved lines are a run of both layers.
abbrev pub KeptLinesAreARun : Type 0
KeptLinesAreARun =
    (tells : Bool) (size : Capacity) (d : Device) (n : ℕ) (old : Layers) (lines answers : List (List ℕ))
    (new : Standing)
    → Session tells size d n (Running old) lines answers new → LookWell tells n lines answers
    → RunsOn (Run tells) old lines answers new

-- In any session after `start` they are one with queries of blocks in it.
abbrev pub KeptLinesRunAmidLooks : Type 0
KeptLinesRunAmidLooks =
    (tells : Bool) (size : Capacity) (d : Device) (n : ℕ) (old : Layers) (lines answers : List (List ℕ))
    (new : Standing)
    → Session tells size d n (Running old) lines answers new → RunsOn (RunAmidLooks tells) old lines answers new

-- So the answers of the events among them are exactly the transcript of a run of these events, as of a script.
abbrev pub KeptLinesTranscribe : Type 0
KeptLinesTranscribe =
    (tells : Bool) (size : Capacity) (d : Device) (n : ℕ) (old last : Layers) (lines answers : List (List ℕ))
    → Session tells size d n (Running old) lines answers (Running last) → LookWell tells n lines answers
    → (before : List ℕ)
    → Transcribes (mailboxes.Run tells) (fleet_in old) (events_of (kept_lines lines answers)) (fleet_in last)
    (Some before) (Some (before ++ event_answers lines answers))
