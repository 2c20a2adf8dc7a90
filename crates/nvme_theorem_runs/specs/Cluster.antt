-- The subsystem for the example runs: two controllers of two hosts, two namespaces of one block, and small windows with
-- one I/O queue pair. Controller 1 belongs to host a1h, which holds namespace 1; controller 2 belongs to host b2h.
use Rattle.std.specs.Prelude.{List, None, Option, Some, [], replicate, true, ℕ, ◌++◌, ◌+◌, ◌^◌, ◌∷◌}
use Rattle.nvme_spec.specs.declared.access.Hold.TheVariants.{One}
use Rattle.nvme_spec.specs.declared.access.Protection.TheVariants.{Open}
use Rattle.nvme_spec.specs.declared.outcome.Outcome.{Outcome}
use Rattle.nvme_spec.specs.declared.registers.ControllerState.TheVariants.{Ready}
use Rattle.nvme_spec.specs.Blocks.{Device}
use Rattle.nvme_spec.specs.ClusterExamples.{keys}
use Rattle.nvme_spec.specs.Commands.{action}
use Rattle.nvme_spec.specs.Configuration.{Configuration}
use Rattle.nvme_spec.specs.Entries.{command_entry, transfer_entry}
use Rattle.nvme_spec.specs.Examples.{controller, namespace}
use Rattle.nvme_spec.specs.Execution.{no_marks}
use Rattle.nvme_spec.specs.Pointer.{address}
use Rattle.nvme_spec.specs.Queues.{empty_completion_tail, empty_submission_head}
use Rattle.nvme_spec.specs.Registers.{Registers}
use Rattle.nvme_spec.specs.Reservation.{Reservation, unreserved}
use Rattle.nvme_spec.specs.ReservationExamples.{a1, b2, persistent, state}
use Rattle.nvme_spec.specs.Statuses.{successful_completion}
use Rattle.nvme_spec.specs.World.{Namespace, World, opening_world, with_reservation}
use Rattle.nvme_machine.specs.declared.event.Event.{Event}
use Rattle.nvme_machine.specs.declared.event.Event.TheVariants.{Store}
use Rattle.nvme_machine.specs.declared.fetched.FetchedCommand.{FetchedCommand}
use Rattle.nvme_machine.specs.Controllers.{Controller}
use Rattle.nvme_machine.specs.Examples.{of_queue_1}
use Rattle.nvme_machine.specs.Subsystems.{Subsystem, controller_at}
use Rattle.nvme_spec.specs.Queues as ring
use Rattle.nvme_spec.specs.Statuses as status

-- Both controllers are attached to both namespaces.
abbrev pub pair : Configuration
pair = record {
  controllers = controller 1 0xa1 ∷ controller 2 0xb2 ∷ [];
  namespaces = namespace 1 1 true ∷ namespace 2 1 true ∷ [];
  attached = (1, 1) ∷ (1, 2) ∷ (2, 1) ∷ (2, 2) ∷ [];
}

-- Host a1h holds namespace 1 with a reservation of this type, which persists through power loss. The others: one that
-- does not persist, and one with host b2h registered too.
abbrev pub held_by_a1 : ℕ → Reservation
held_by_a1 type = persistent (a1 0x11 ∷ []) (One type 0xa1) 1

abbrev pub forgotten : ℕ → Reservation
forgotten type = state (a1 0x11 ∷ []) (One type 0xa1) 1

abbrev pub with_b2 : ℕ → Reservation
with_b2 type = persistent (a1 0x11 ∷ b2 0x22 ∷ []) (One type 0xa1) 2

abbrev pub reserved : Reservation → World
reserved r = with_reservation (opening_world pair) 1 r

-- Block 0 holds bytes 1, and block 1 bytes 2.
abbrev pub blocks : Device
blocks = record { content = replicate 512 1 ++ replicate 512 2; failures = 0 }

-- A window: 512 bytes of data, four submission entries from byte 512, four completion entries from byte 768.
abbrev pub window_with : List ℕ → List ℕ
window_with front = front ++ replicate 320 0

abbrev pub zeros : List ℕ
zeros = window_with (replicate 512 0)

-- A controller that is ready, with I/O queue 1 of four entries.
abbrev pub is_up : Registers
is_up = record { cc = 0x00460001; state = Ready; aqa = 0x00030003; asq = 0; acq = 0 }

abbrev pub ready : ℕ → List ℕ → List FetchedCommand → Controller
ready k window commands = record {
  cntlid = k;
  registers = is_up;
  submission = None ∷ Some (record { base = 512; cqid = 1; head = ring.empty_submission_head 4 }) ∷ None ∷ None ∷ None
      ∷ [];
  completion = None ∷ Some (record { base = 768; tail = ring.empty_completion_tail 4 }) ∷ None ∷ None ∷ None ∷ [];
  fetched = commands;
  window = window;
}

-- Namespace 1 has this reservation, both controllers are ready, and have fetched these commands.
unfoldable pub cluster : Reservation → List FetchedCommand → List FetchedCommand → Subsystem
cluster r first second = record {
  world = reserved r;
  device = blocks;
  controllers = ready 1 zeros first ∷ ready 2 zeros second ∷ [];
}

-- Write Zeroes on the block of a namespace.
abbrev pub zeroes_entry : ℕ → List ℕ
zeroes_entry n = transfer_entry 8 n 0 1

abbrev pub zeroes : ℕ → FetchedCommand
zeroes n = of_queue_1 (zeroes_entry n)

-- Flush.
abbrev pub flush : ℕ → FetchedCommand
flush n = of_queue_1 (command_entry 0 n 0 0 0)

-- The host of a controller stores bytes.
abbrev pub stores : ℕ → ℕ → List ℕ → Event
stores k address bytes = Store k address (record { ref_ptr = (0, 0); now = bytes })

-- A command succeeds, and marks nothing.
abbrev pub done : Outcome
done = record { status = status.successful_completion; dw0 = 0; rule = 0; marks = no_marks }

-- Reservation Register of a new key, and Reservation Acquire with this action, Write Exclusive; keys are at address 0.
abbrev pub register : FetchedCommand
register = of_queue_1 (command_entry 0x0d 1 0 0 0)

abbrev pub acquire : ℕ → FetchedCommand
acquire action = of_queue_1 (command_entry 0x11 1 0 (action + 2 ^ 8) 0)

-- The host of a controller stores its own key and another one.
abbrev pub stores_keys : ℕ → ℕ → ℕ → Event
stores_keys k own other = stores k 0 (keys own other)

-- Namespace 2 is on the block of namespace 1.
abbrev pub overlapping : World
overlapping = record (reserved (held_by_a1 1)) {
  namespaces = on_block_0 1 (held_by_a1 1) ∷ on_block_0 2 unreserved ∷ [];
}
  where
    on_block_0 : ℕ → Reservation → Namespace
    on_block_0 n r = record {
      nsid = n;
      first = 0;
      blocks = 1;
      shared = true;
      protection = Open;
      reservation = r;
    }

-- The fetched commands of a controller; none if it does not exist.
abbrev pub fetched_in : Option Controller → List FetchedCommand
fetched_in None = []
fetched_in (Some c) = c.fetched

abbrev pub fetched_of : Subsystem → ℕ → List FetchedCommand
fetched_of s k = fetched_in (controller_at s k)
