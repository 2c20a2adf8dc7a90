-- An example run of the law that a session is a script, and a session without its premise for which it fails.
use Rattle.std.specs.Prelude.{◌≡◌, ℕ, Bool, true, List, [], ◌∷◌, ◌++◌, codes, map, replicate, Option, Some, Ok}
use Rattle.std.specs.List.{concat}
use Rattle.nvme_spec.specs.Blocks.{Device}
use Rattle.nvme_spec.specs.Configuration.{Capacity}
use Rattle.nvme_spec.specs.MediumCalls.{MediumCall}
use Rattle.nvme_fleet.specs.Layers.{Run}
use Rattle.nvme_subsys.specs.OverMedium.{OverMedium, over}
use Rattle.nvme_grammar.specs.Script.{start_of}
use Rattle.script_text.specs.Lines.{text_lines}
use Rattle.script_text.specs.Streams.{WriteCall}
use Rattle.live_text.specs.Faults.{refusal}
use Rattle.live_text.specs.declared.fault.Why.TheVariants.{BeforeStart}
use Rattle.live_views.specs.Looks.{read_text}
use Rattle.nvme_live.specs.AnswerCalls.{TurnOver}
use Rattle.nvme_live.specs.Conversations.{Converses}
use Rattle.nvme_live.specs.Keeping.{LookWell, event_answers}
use Rattle.nvme_live.specs.Lives.{Opens}
use Rattle.nvme_live.specs.Saying.{with_feed}
use Rattle.nvme_live.specs.SessionScripts.{IsAScript, session_text, text_of}
use Rattle.nvme_live.specs.SetUps.{nothing_set_up}
use Rattle.nvme_live.specs.Standings.{Running, Setting, Standing, started_text}
use Rattle.nvme_live.specs.Streams.{LineCall, ReadsBy, SendsBy}
use Rattle.nvme_session_runs.specs.Replays.{
  command_lines,
  disk,
  enabled_lines,
  enabling_lines,
  ended,
  executed_lines,
  one_block,
  start_lines,
  text,
  transcribed,
}

-- The lines of a session: those of `text`, and among them a query of the block, a second `start`, and a query of
-- Controller Status.
unfoldable pub lines : List (List ℕ)
lines =
    start_lines ++ (codes "?blocks 1 0 1" ∷ codes "start" ∷ enabling_lines
    ++ (codes "?register 1 0x1c" ∷ command_lines))

abbrev pub an_ok : List ℕ
an_ok = with_feed (codes "ok")

abbrev pub a_block : List ℕ
a_block = with_feed (read_text 4 1 0 1 (replicate 512 7) (Ok tt))

-- the controller is ready: bit 0 is RDY
abbrev pub a_status : List ℕ
a_status = with_feed (codes "register 1 28 0x00000001")

unfoldable pub answers : List (List ℕ)
answers =
    an_ok ∷ an_ok ∷ with_feed started_text ∷ a_block ∷ with_feed (refusal 5 BeforeStart)
    ∷ map with_feed enabled_lines ++ (a_status ∷ map with_feed executed_lines)

-- a call of a medium, or of streams whose bytes are known, may do anything
abbrev pub AnyCall : Device → MediumCall → Device → Type 0
AnyCall old call new = Unit {0}

abbrev pub AnyRead : Option (List ℕ) → LineCall → Option (List ℕ) → Type 0
AnyRead old call new = Unit {0}

abbrev pub AnyWrite : Option (List ℕ) → WriteCall → Option (List ℕ) → Type 0
AnyWrite old call new = Unit {0}

abbrev pub AnyFlush : Option (List ℕ) → Bool → Option (List ℕ) → Type 0
AnyFlush old done new = Unit {0}

abbrev pub known : Option (List ℕ) → Option (List ℕ)
known bytes = bytes

abbrev pub whole : Device → Device
whole medium = medium

-- a session over them begins, after this script
abbrev pub Begun : Capacity → List ℕ → Device → OverMedium Standing Device → Option (List ℕ) → Option (List ℕ) → Type 0
Begun size first medium from before told =
    Opens AnyCall true whole AnyWrite AnyFlush known size first medium (start_of (text_lines first)) from before told

-- its next lines, and their answers
abbrev pub Continues : Capacity → Device → OverMedium Standing Device → ℕ → OverMedium Standing Device
    → Option (List ℕ) → Option (List ℕ) → Option (List ℕ) → Option (List ℕ) → Type 0
Continues size medium from next last unread left told after =
    Converses (TurnOver AnyCall true size medium) (ReadsBy AnyRead known) (SendsBy AnyWrite AnyFlush known) 1 from next
    last unread left told after

-- SessionIsAScript: the session of these lines has `text` as its script, and the answers of its events as transcript.
pub record SavedAtWork : Type 0 where
  pub begun : Begun one_block [] disk (over (Setting nothing_set_up) disk) (Some []) (Some [])
  pub session : Continues one_block disk (over (Setting nothing_set_up) disk) 16 (over (Running ended) disk)
      (Some (text_of lines)) (Some []) (Some []) (Some (concat answers))
  pub reads : session.lines ≡ lines
  pub says : session.answers ≡ answers
  pub well : LookWell true 1 lines answers
  pub text : session_text [] lines answers ≡ text
  pub transcript : event_answers lines answers ≡ transcribed
  pub script : IsAScript (Run true) one_block disk [] session.lines session.answers (Running ended) (Some []) (Some [])

-- SessionIsAScript without its premise that no query of blocks failed.
abbrev pub SavedWithFaults : Type 0
SavedWithFaults =
    (size : Capacity) (first : List ℕ) (medium : Device) (from last : OverMedium Standing Device) (next : ℕ)
    (unread left before told after : Option (List ℕ)) → Begun size first medium from before told
    → (h : Continues size medium from next last unread left told after)
    → IsAScript (Run true) size medium first h.lines h.answers last.state before told
