-- The texts that answer queries, from the present state.
use Rattle.std.specs.Prelude.{
  ℕ,
  ◌+◌,
  nat_le,
  nat_lt,
  ◌==◌,
  Bool,
  true,
  false,
  if◌then◌else◌,
  List,
  [],
  ◌∷◌,
  ◌++◌,
  length,
  codes,
  slice_range,
  Option,
  None,
  Some,
}
use Rattle.std.specs.List.{flat_map}
use Rattle.std.specs.Fmt.{decimal, digits}
use Rattle.script_text.specs.HexText.{hex_or_dash, without_trailing_zeros}
use Rattle.nvme_wire.specs.Submission.{opcode, cid, nsid}
use Rattle.nvme_spec.specs.Limits.{most_bytes}
use Rattle.nvme_spec.specs.Memory.{window_size}
use Rattle.nvme_spec.specs.Queues.{slot_of, ahead, phase_tag}
use Rattle.nvme_spec.specs.Registers.{Registers, value_at}
use Rattle.nvme_spec.specs.Reservation.{Reservation}
use Rattle.nvme_spec.specs.World.{World, Namespace, namespace_of}
use Rattle.nvme_spec.specs.AdminCommands.{state_of}
use Rattle.nvme_spec.specs.declared.access.Hold.{Hold}
use Rattle.nvme_spec.specs.declared.access.Hold.TheVariants as hold
use Rattle.nvme_spec.specs.declared.access.Registrant.{Registrant}
use Rattle.nvme_driver.specs.Drivers.{Driver, ticket_count}
use Rattle.nvme_driver.specs.declared.state.State.{State}
use Rattle.nvme_driver.specs.declared.state.State.TheVariants.{Down, Up, Failed}
use Rattle.nvme_driver.specs.declared.lane.Lane.{Lane}
use Rattle.nvme_driver.specs.declared.lane.Lane.TheVariants.{Admin, Io}
use Rattle.nvme_driver.specs.declared.slots.Waiting.{Waiting}
use Rattle.nvme_machine.specs.Controllers.{Controller, SubmissionQueue, CompletionQueue, submission_at, completion_at}
use Rattle.nvme_machine.specs.declared.fetched.FetchedCommand.{FetchedCommand}
use Rattle.nvme_grammar.specs.Keywords.{keyword_texts}
use Rattle.nvme_transcript.specs.Transcript.{double_word_text}
use Rattle.live_text.specs.Faults.{refusal}
use Rattle.live_text.specs.Forms.{form_text}
use Rattle.live_text.specs.LookingWords.{word_texts}
use Rattle.live_text.specs.declared.fault.Why.TheVariants as why
use Rattle.live_text.specs.declared.looking.Looking.{Looking}
use Rattle.live_text.specs.declared.looking.Looking.TheVariants as look

-- the most bytes of a window in an answer
abbrev pub most_shown : ℕ
most_shown = most_bytes

-- a bit
abbrev pub bit_text : Bool → List ℕ
bit_text true = codes "1"
bit_text false = codes "0"

-- the identifier of a host in hexadecimal
abbrev pub host_text : ℕ → List ℕ
host_text h = codes "0x" ++ digits 16 false h

-- bytes of a window
abbrev pub window_text : ℕ → ℕ → List ℕ → List ℕ
window_text k address bytes =
    codes "window " ++ decimal k ++ codes " " ++ decimal address ++ codes " " ++ decimal (length bytes) ++ codes " "
    ++ hex_or_dash (without_trailing_zeros bytes)

-- a register
abbrev pub register_text : ℕ → ℕ → ℕ → List ℕ
register_text k offset value =
    codes "register " ++ decimal k ++ codes " " ++ decimal offset ++ codes " 0x" ++ double_word_text value

-- the value of a register of one double word, and of one of two
unfoldable pub narrow_text : ℕ → List ℕ
narrow_text value = codes "0x" ++ double_word_text value

unfoldable pub wide_text : ℕ → ℕ → List ℕ
wide_text high low = codes "0x" ++ double_word_text high ++ double_word_text low

-- all registers, by their names
abbrev pub state_registers_text : Registers → List ℕ
state_registers_text r =
    codes " cap " ++ wide_text (value_at r 4) (value_at r 0) ++ codes " vs " ++ narrow_text (value_at r 8)
    ++ codes " cc " ++ narrow_text (value_at r 20) ++ codes " csts " ++ narrow_text (value_at r 28)

abbrev pub queue_registers_text : Registers → List ℕ
queue_registers_text r =
    codes " aqa " ++ narrow_text (value_at r 36) ++ codes " asq " ++ wide_text (value_at r 44) (value_at r 40)
    ++ codes " acq " ++ wide_text (value_at r 52) (value_at r 48)

abbrev pub registers_text : ℕ → Registers → List ℕ
registers_text k r = codes "registers " ++ decimal k ++ state_registers_text r ++ queue_registers_text r

-- a queue, if there is one: its address, its size, and its two ends
abbrev pub submission_text : ℕ → Option SubmissionQueue → List ℕ
submission_text q None = []
submission_text q (Some s) =
    codes " sq " ++ decimal q ++ codes " place " ++ decimal s.base ++ codes " size " ++ decimal s.head.size
    ++ codes " head " ++ decimal s.head.fetched
    ++ codes " tail " ++ decimal (slot_of s.head.size (s.head.fetched + s.head.waiting))
    ++ codes " to " ++ decimal s.cqid

abbrev pub completion_text : ℕ → Option CompletionQueue → List ℕ
completion_text q None = []
completion_text q (Some s) =
    codes " cq " ++ decimal q ++ codes " place " ++ decimal s.base ++ codes " size " ++ decimal s.tail.size
    ++ codes " head " ++ decimal (ahead s.tail.size (slot_of s.tail.size s.tail.posted) s.tail.unread)
    ++ codes " tail " ++ decimal (slot_of s.tail.size s.tail.posted)
    ++ codes " phase " ++ bit_text (phase_tag s.tail.size s.tail.posted)

abbrev pub pair_text : Controller → ℕ → List ℕ
pair_text c q = submission_text q (submission_at c q) ++ completion_text q (completion_at c q)

abbrev pub queues_text : ℕ → Controller → List ℕ
queues_text k c =
    codes "queues " ++ decimal k ++ pair_text c 0 ++ pair_text c 1 ++ pair_text c 2 ++ pair_text c 3 ++ pair_text c 4

-- the name of a command of the admin queue, and of an I/O queue, by its opcode
abbrev pub admin_name : ℕ → List ℕ
admin_name op =
    if op == 0 then codes "delete_submission_queue"
    else if op == 1 then codes "create_submission_queue"
    else if op == 4 then codes "delete_completion_queue"
    else if op == 5 then codes "create_completion_queue"
    else if op == 6 then codes "identify"
    else if op == 9 then codes "set_features"
    else if op == 10 then codes "get_features"
    else if op == 21 then codes "namespace_attachment"
    else codes "unknown"

abbrev pub io_name : ℕ → List ℕ
io_name op =
    if op == 0 then codes "flush"
    else if op == 1 then codes "write"
    else if op == 2 then codes "read"
    else if op == 5 then codes "compare"
    else if op == 8 then codes "write_zeroes"
    else if op == 13 then codes "reservation_register"
    else if op == 14 then codes "reservation_report"
    else if op == 17 then codes "reservation_acquire"
    else if op == 21 then codes "reservation_release"
    else codes "unknown"

abbrev pub command_name : ℕ → ℕ → List ℕ
command_name queue op = if queue == 0 then admin_name op else io_name op

-- fetched commands, from this place in the list
abbrev pub kind_text : FetchedCommand → List ℕ
kind_text c =
    codes " opcode " ++ decimal (opcode c.entry) ++ codes " name " ++ command_name c.queue (opcode c.entry)
    ++ codes " nsid " ++ decimal (nsid c.entry) ++ codes " marked " ++ bit_text c.marked

abbrev pub command_text : ℕ → FetchedCommand → List ℕ
command_text i c =
    codes " command " ++ decimal i ++ codes " queue " ++ decimal c.queue ++ codes " cid " ++ decimal (cid c.entry)
    ++ kind_text c

abbrev pub commands_text : ℕ → List FetchedCommand → List ℕ
commands_text i [] = []
commands_text i (c ∷ commands) = command_text i c ++ commands_text (i + 1) commands

abbrev pub fetched_text : ℕ → List FetchedCommand → List ℕ
fetched_text k commands = codes "fetched " ++ decimal k ++ commands_text 0 commands

-- a driver
abbrev pub state_text : State → List ℕ
state_text Down = codes "down"
state_text Up = codes "up"
state_text Failed = codes "failed"

abbrev pub lane_text : Lane → List ℕ
lane_text Admin = codes "admin"
lane_text Io = codes "io"

abbrev pub next_text : ℕ → List ℕ
next_text next = if nat_lt next ticket_count then decimal next else codes "none"

abbrev pub life_text : Bool → List ℕ
life_text true = codes "live"
life_text false = codes "aborted"

abbrev pub slot_text : Option Waiting → List ℕ
slot_text None = []
slot_text (Some w) =
    codes " ticket " ++ decimal w.ticket.0 ++ codes " lane " ++ lane_text w.lane ++ codes " is " ++ life_text w.live

abbrev pub driver_text : ℕ → Driver → List ℕ
driver_text k d =
    codes "driver " ++ decimal k ++ codes " state " ++ state_text d.state ++ codes " next " ++ next_text d.next
    ++ flat_map slot_text d.slots

-- namespaces, and attachments
abbrev pub namespace_text : Namespace → List ℕ
namespace_text n =
    codes " namespace " ++ decimal n.nsid ++ codes " first " ++ decimal n.first ++ codes " blocks " ++ decimal n.blocks
    ++ codes " shared " ++ bit_text n.shared ++ codes " protected " ++ decimal (state_of n.protection)

abbrev pub namespaces_text : List Namespace → List ℕ
namespaces_text namespaces = codes "namespaces" ++ flat_map namespace_text namespaces

abbrev pub attachment_text : ℕ × ℕ → List ℕ
attachment_text a = codes " controller " ++ decimal a.0 ++ codes " namespace " ++ decimal a.1

abbrev pub attached_text : List (ℕ × ℕ) → List ℕ
attached_text attachments = codes "attached" ++ flat_map attachment_text attachments

-- a reservation: its type, holder, generation and persistence, the protection state, and each registrant with its key
abbrev pub hold_text : Hold → List ℕ
hold_text hold.Free = codes "type 0 holder none"
hold_text (hold.One rtype host) = codes "type " ++ decimal rtype ++ codes " holder " ++ host_text host
hold_text (hold.All rtype) = codes "type " ++ decimal rtype ++ codes " holder all"

abbrev pub registrant_text : Registrant → List ℕ
registrant_text r = codes " registrant " ++ host_text r.host ++ codes " key 0x" ++ digits 16 false r.key

abbrev pub reservation_text : ℕ → Reservation → ℕ → List ℕ
reservation_text n r state =
    codes "reservation " ++ decimal n ++ codes " " ++ hold_text r.hold ++ codes " generation " ++ decimal r.generation
    ++ codes " persists " ++ bit_text r.ptpl ++ codes " protected " ++ decimal state
    ++ flat_map registrant_text r.registrants

-- blocks of a namespace
abbrev pub blocks_text : ℕ → ℕ → ℕ → List ℕ → List ℕ
blocks_text n slba count bytes =
    codes "blocks " ++ decimal n ++ codes " " ++ decimal slba ++ codes " " ++ decimal count ++ codes " "
    ++ hex_or_dash (without_trailing_zeros bytes)

-- the first words of all lines of a session
abbrev pub help_text : List ℕ
help_text = codes "help" ++ keyword_texts ++ word_texts

-- The answer about an existing controller; if it does not exist, the n-th line is refused.
abbrev pub of_controller : ℕ → Option Controller → (Controller → List ℕ) → List ℕ
of_controller n None text = refusal n why.NoController
of_controller n (Some c) text = text c

abbrev pub of_driver : ℕ → Option Driver → (Driver → List ℕ) → List ℕ
of_driver n None text = refusal n why.NoDriver
of_driver n (Some d) text = text d

abbrev pub of_namespace : ℕ → Option Namespace → (Namespace → List ℕ) → List ℕ
of_namespace n None text = refusal n why.NoNamespace
of_namespace n (Some s) text = text s

-- bytes of a controller's window, if they are all inside and not too many
abbrev pub window_shown : ℕ → ℕ → ℕ → ℕ → Controller → List ℕ
window_shown n k address len c =
    if nat_lt most_shown len then refusal n why.OutsideWindow
    else if nat_le (address + len) window_size
    then window_text k address (slice_range c.window address (address + len))
    else refusal n why.OutsideWindow

-- the answer about an existing controller
abbrev pub controller_shown : ℕ → Looking → Controller → List ℕ
controller_shown n (look.Window k address len) c = window_shown n k address len c
controller_shown n (look.Register k offset) c = register_text k offset (value_at c.registers offset)
controller_shown n (look.Registers k) c = registers_text k c.registers
controller_shown n (look.Queues k) c = queues_text k c
controller_shown n (look.Fetched k) c = fetched_text k c.fetched
controller_shown n looking c = refusal n why.NoController

abbrev pub reservation_shown : ℕ → ℕ → World → List ℕ
reservation_shown n m w =
    of_namespace n (namespace_of w m) (λ s. reservation_text m s.reservation (state_of s.protection))

-- the answer to a query before there is a subsystem
abbrev pub early_text : ℕ → Looking → List ℕ
early_text n look.Help = help_text
early_text n (look.HelpOn form) = codes "help " ++ form_text form
early_text n looking = refusal n why.BehindStart
