-- Subsystems, commands and statements of the worked examples.
use Rattle.std.specs.Prelude.{ℕ, true, false, List, [], ◌∷◌, ◌++◌, None, Some, Ok, replicate}
use Rattle.nvme_spec.specs.declared.access.Protection.TheVariants.{Protected}
use Rattle.nvme_spec.specs.Configuration.{Configuration}
use Rattle.nvme_spec.specs.Entries.{transfer_entry, command_entry}
use Rattle.nvme_spec.specs.Examples.{controller, namespace}
use Rattle.nvme_spec.specs.MediumCalls.{Reads, Writes, Flushes}
use Rattle.nvme_spec.specs.Queues as ring
use Rattle.nvme_spec.specs.World.{opening_world, with_protection}
use Rattle.nvme_machine.specs.declared.event.Event.{Event}
use Rattle.nvme_machine.specs.declared.event.Event.TheVariants.{Store}
use Rattle.nvme_machine.specs.declared.fetched.FetchedCommand.{FetchedCommand}
use Rattle.nvme_machine.specs.declared.need.Need.TheVariants as need
use Rattle.nvme_machine.specs.Controllers.{Controller, new_controller}
use Rattle.nvme_machine.specs.Needs.{IsNeeded}
use Rattle.nvme_machine.specs.Subsystems.{Subsystem}

-- one controller, attached to one namespace of two blocks
abbrev pub small : Configuration
small = record {
  controllers = controller 1 0xa1 ∷ [];
  namespaces = namespace 1 2 true ∷ [];
  attached = (1, 1) ∷ [];
}

-- a command of I/O queue 1
abbrev pub of_queue_1 : List ℕ → FetchedCommand
of_queue_1 entry = record { entry = entry; queue = 1; marked = false }

-- the commands on both blocks, with data at the front of the window, and a Flush
abbrev pub a_write : FetchedCommand
a_write = of_queue_1 (transfer_entry 1 1 0 2)

abbrev pub a_read : FetchedCommand
a_read = of_queue_1 (transfer_entry 2 1 0 2)

abbrev pub a_compare : FetchedCommand
a_compare = of_queue_1 (transfer_entry 5 1 0 2)

abbrev pub a_flush : FetchedCommand
a_flush = of_queue_1 (command_entry 0 1 0 0 0)

-- a Write Zeroes of the second block, a Reservation Report of 64 bytes, and a Read whose second block is past the end
abbrev pub a_write_zeroes : FetchedCommand
a_write_zeroes = of_queue_1 (transfer_entry 8 1 1 1)

abbrev pub a_report : FetchedCommand
a_report = of_queue_1 (command_entry 0x0e 1 15 1 0)

abbrev pub past_the_end : FetchedCommand
past_the_end = of_queue_1 (transfer_entry 2 1 1 2)

-- the same command, marked by a Preempt and Abort, or from the admin queue
abbrev pub marked : FetchedCommand → FetchedCommand
marked command = record command { marked = true }

abbrev pub of_admin_queue : FetchedCommand → FetchedCommand
of_admin_queue command = record command { queue = 0 }

-- a controller with I/O queue 1, of four entries each, that has fetched these commands. Only the front of its window
-- matters, which has the data
abbrev pub has_fetched : List FetchedCommand → Controller
has_fetched commands = record (new_controller 1) {
  submission = None ∷ Some (record { base = 8192; cqid = 1; head = ring.empty_submission_head 4 }) ∷ None ∷ None ∷ None
      ∷ [];
  completion = None ∷ Some (record { base = 12288; tail = ring.empty_completion_tail 4 }) ∷ None ∷ None ∷ None ∷ [];
  fetched = commands;
  window = replicate 1024 0;
}

-- over a medium whose blocks hold the bytes 1 and 2
abbrev pub having : List FetchedCommand → Subsystem
having commands = record {
  world = opening_world small;
  device = record { content = replicate 512 1 ++ replicate 512 2; failures = 0 };
  controllers = has_fetched commands ∷ [];
}

-- `having` with a write protected namespace
abbrev pub protected_having : List FetchedCommand → Subsystem
protected_having commands = record (having commands) { world = with_protection (opening_world small) 1 Protected }

-- the namespace follows another one, of three blocks, on the medium
abbrev pub behind_another : Configuration
behind_another = record {
  controllers = controller 1 0xa1 ∷ [];
  namespaces = namespace 2 3 true ∷ namespace 1 2 true ∷ [];
  attached = (1, 1) ∷ [];
}

abbrev pub behind_another_having : List FetchedCommand → Subsystem
behind_another_having commands = record (having commands) { world = opening_world behind_another }

-- the host of controller 1 stores bytes at the start of its window
abbrev pub stores : List ℕ → Event
stores bytes = Store 1 0 (record { ref_ptr = (0, 0); now = bytes })

-- Calls that are not needed: of a block before or after, of another kind, and any if nothing is needed.
abbrev pub OtherCallsAreNotNeeded : Type 0
OtherCallsAreNotNeeded =
    (IsNeeded (need.Read 3 2) (Reads 2 (Ok [])) → ⊥)
    × (IsNeeded (need.Read 3 2) (Reads 5 (Ok [])) → ⊥)
    × (IsNeeded (need.Read 3 2) (Writes 3 [] (Ok tt)) → ⊥)
    × (IsNeeded (need.Write 3 2) (Writes 5 [] (Ok tt)) → ⊥)
    × (IsNeeded (need.Write 3 2) (Flushes (Ok tt)) → ⊥)
    × (IsNeeded (need.Zero 3 2) (Writes 2 [] (Ok tt)) → ⊥)
    × (IsNeeded (need.Zero 3 2) (Reads 3 (Ok [])) → ⊥)
    × (IsNeeded need.Flush (Writes 0 [] (Ok tt)) → ⊥)
    × (IsNeeded need.Nothing (Flushes (Ok tt)) → ⊥)
