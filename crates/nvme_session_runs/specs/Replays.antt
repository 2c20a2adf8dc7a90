-- Example runs of the laws that the text of a session is a script, and that all runs of it are alike.
use Rattle.std.specs.Prelude.{◌≡◌, ◌++◌, ℕ, true, List, [], ◌∷◌, codes, replicate, Option, Some}
use Rattle.std.specs.Io.KnownBytes.{Appends}
use Rattle.nvme_wire.specs.Completion.{completion_entry}
use Rattle.nvme_spec.specs.declared.outcome.Outcome.{Outcome}
use Rattle.nvme_spec.specs.Blocks.{Device}
use Rattle.nvme_spec.specs.Bytes.{with_bytes}
use Rattle.nvme_spec.specs.Configuration.{Capacity, Configuration, script_capacity}
use Rattle.nvme_spec.specs.Examples.{namespace, raw_controller}
use Rattle.nvme_spec.specs.Execution.{no_marks}
use Rattle.nvme_spec.specs.Memory.{zeros}
use Rattle.nvme_spec.specs.Statuses.{successful_completion}
use Rattle.nvme_machine.specs.declared.seen.Executed.TheVariants.{Posted}
use Rattle.nvme_machine.specs.declared.seen.Fetched.TheVariants.{Took}
use Rattle.nvme_machine.specs.Controllers.{Controller, new_controller}
use Rattle.nvme_event.specs.declared.event.FleetEvent.{FleetEvent}
use Rattle.nvme_event.specs.declared.event.FleetEvent.TheVariants.{
  Execute,
  Fetch,
  PowerCycle,
  RawStore,
  RawWrite32,
  Ring,
}
use Rattle.nvme_event.specs.declared.seen.FleetSeen.TheVariants as seen
use Rattle.nvme_event.specs.Replies.{Reply}
use Rattle.nvme_mailbox.specs.Deliveries.{plain}
use Rattle.nvme_fleet.specs.FleetStates.{Layers, opening_layers}
use Rattle.nvme_fleet.specs.Layers.{Run}
use Rattle.nvme_grammar.specs.Lent.{lent}
use Rattle.nvme_script.specs.Faults.{IsScript, Runs}
use Rattle.nvme_live.specs.SessionScripts.{IsPlayed, text_of}

-- The lines of a script: a raw host enables its controller, with admin queues of two entries at addresses 0 and 4096.
unfoldable pub start_lines : List (List ℕ)
start_lines = codes "controller 1 host 0xa1 raw" ∷ codes "namespace 1 blocks 1 shared" ∷ codes "start" ∷ []

unfoldable pub enabling_lines : List (List ℕ)
enabling_lines = codes "write32 1 0x24 0x10001" ∷ codes "write32 1 0x30 4096" ∷ codes "write32 1 0x14 0x460001" ∷ []

-- It stores a Get Features of Number of Queues and writes the tail doorbell. The controller fetches and executes the
-- command. A raw host has no driver that could ring. Then power is lost.
unfoldable pub command_lines : List (List ℕ)
command_lines =
    codes
    "store 1 0 hex:0a00070000000000000000000000000000000000000000000000000000000000000000000000000007000000"
    ∷ codes "write32 1 0x1000 1" ∷ codes "fetch 1 0" ∷ codes "execute 1 0" ∷ codes "ring 1" ∷ codes "powercycle" ∷ []

unfoldable pub text : List ℕ
text = text_of (start_lines ++ (enabling_lines ++ command_lines))

abbrev pub disk : Device
disk = record { content = replicate 512 7; failures = 0 }

abbrev pub one_block : Capacity
one_block = script_capacity 1

abbrev pub set_up : Configuration
set_up = record { controllers = raw_controller 1 0xa1 ∷ []; namespaces = namespace 1 1 true ∷ []; attached = [] }

abbrev pub opened : Layers
opened = opening_layers set_up disk

-- The first 44 bytes of the command: opcode 0Ah, Command Identifier 7, and Feature Identifier 07h in double word 10.
abbrev pub get_features : List ℕ
get_features = 0x0a ∷ 0 ∷ 7 ∷ 0 ∷ replicate 36 0 ++ 7 ∷ 0 ∷ 0 ∷ 0 ∷ []

-- Its answer: four I/O submission queues and four I/O completion queues, each number one less.
abbrev pub four_queues : Outcome
four_queues = record { status = successful_completion; dw0 = 0x00030003; rule = 0; marks = no_marks }

abbrev pub events : List FleetEvent
events =
    RawWrite32 1 0x24 0x10001 ∷ RawWrite32 1 0x30 4096 ∷ RawWrite32 1 0x14 0x460001
    ∷ RawStore 1 0 (lent get_features) ∷ RawWrite32 1 0x1000 1 ∷ Fetch 1 0 ∷ Execute 1 0 ∷ Ring 1 ∷ PowerCycle ∷ []

abbrev pub replies : List Reply
replies = plain seen.Wrote ∷ plain seen.Wrote ∷ plain seen.Wrote ∷ plain seen.Stored ∷ plain seen.Wrote
    ∷ plain (seen.Fetched Took) ∷ plain (seen.Executed (Posted four_queues)) ∷ plain seen.NoDriver ∷ plain seen.Cycled
    ∷ []

-- The lines of the transcript.
unfoldable pub enabled_lines : List (List ℕ)
enabled_lines = codes "wrote32 1" ∷ codes "wrote32 1" ∷ codes "wrote32 1" ∷ []

unfoldable pub executed_lines : List (List ℕ)
executed_lines =
    codes "stored 1" ∷ codes "wrote32 1" ∷ codes "fetch 1 0 took" ∷ codes "execute 1 0 posted 0:00 0"
    ∷ codes "nodriver 1" ∷ codes "powercycle" ∷ []

unfoldable pub transcribed : List ℕ
transcribed = text_of (enabled_lines ++ executed_lines)

-- In the end the controller is as new, and its host's memory has the command and its completion.
abbrev pub completion : List ℕ
completion = completion_entry (record {
  dw0 = 0x00030003;
  sq_head = 1;
  sq_id = 0;
  cid = 7;
  phase = true;
  status = successful_completion;
})

abbrev pub cycled : Controller
cycled = record (new_controller 1) { window = with_bytes (with_bytes zeros 0 get_features) 4096 completion }

abbrev pub ended : Layers
ended = record opened { subsystem = record opened.subsystem { controllers = cycled ∷ [] } }

-- PlayedIsARun: the text has run with this transcript, so it is a script, and `run_script` can run it so.
pub record PlayedAtWork : Type 0 where
  pub run : Run true opened events replies ended
  pub played : IsPlayed (Run true) one_block disk text transcribed ended
  pub script : IsScript text one_block
  pub runs : (before : List ℕ) → Runs true text disk disk (Some before) (Some (before ++ transcribed))

-- ReplaysAlike: each run of it without a fault of the medium writes this transcript, and leaves the medium unchanged.
pub record ReplaysAtWork : Type 0 where
  pub alike : (new : Device) (before after : Option (List ℕ)) → Runs true text disk new before after
      → new.failures ≡ 0 → Appends before after transcribed × (new ≡ disk)
