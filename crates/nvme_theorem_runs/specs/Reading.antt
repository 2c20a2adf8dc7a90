-- Statements of `fencing.rt` on secrecy: an example run of a host that may not read a namespace, over two media. Also
-- the theorem without its premise: it is false.
use Rattle.std.specs.Prelude.{◌≡◌, ◌<◌, ◌-◌, ◌^◌, ℕ, true, List, [], ◌∷◌, ◌++◌, replicate}
use Rattle.nvme_spec.specs.Blocks.{Device}
use Rattle.nvme_spec.specs.Entries.{transfer_entry}
use Rattle.nvme_spec.specs.Execution.{denial_outcome}
use Rattle.nvme_spec.specs.Layout.{IsLaidOut}
use Rattle.nvme_spec.specs.Statuses as status
use Rattle.nvme_machine.specs.declared.event.Event.{Event}
use Rattle.nvme_machine.specs.declared.event.Event.TheVariants.{Write32, Read32, Fetch, Execute, PowerCycle}
use Rattle.nvme_machine.specs.declared.seen.Executed.TheVariants.{Posted}
use Rattle.nvme_machine.specs.declared.seen.Fetched.TheVariants.{Took}
use Rattle.nvme_machine.specs.declared.seen.Seen.{Seen}
use Rattle.nvme_machine.specs.declared.seen.Seen.TheVariants.{Stored, Wrote, Value, Fetched, Executed, Cycled}
use Rattle.nvme_machine.specs.FaultFree.{fault_free_left}
use Rattle.nvme_machine.specs.Fencing.{LeavesReservation, RunWhere, namespace_bytes}
use Rattle.nvme_machine.specs.Secrecy.{DifferIn, MayNotRead, over}
use Rattle.nvme_machine.specs.Subsystems.{Subsystem, Run}
use Rattle.nvme_theorem_runs.specs.Cluster.{cluster, held_by_a1, stores}

-- Host b2h stores an entry, rings, and reads its status; the command is fetched and executed, and power is lost.
unfoldable pub sends : List ℕ → List Event
sends entry =
    stores 2 512 entry ∷ Write32 2 0x1008 1 ∷ Read32 2 0x1c ∷ Fetch 2 1 ∷ Execute 2 0 ∷ PowerCycle ∷ []

-- a Read of namespace 1
abbrev pub read_entry : List ℕ
read_entry = transfer_entry 2 1 0 1

unfoldable pub denied_seen : List Seen
denied_seen =
    Stored ∷ Wrote ∷ Value 1 ∷ Fetched Took ∷ Executed (Posted (denial_outcome 7 status.reservation_conflict)) ∷ Cycled
    ∷ []

-- another medium, where block 0 holds bytes 9
unfoldable pub other_blocks : Device
other_blocks = record { content = replicate 512 9 ++ replicate 512 2; failures = 0 }

-- Host a1h has exclusive access to namespace 1.
abbrev pub secret : Subsystem
secret = cluster (held_by_a1 2) [] []

abbrev pub after_secret : Subsystem
after_secret = fault_free_left secret (sends read_entry)

-- Its premises hold, the media differ, and the Read is denied over each.
pub record ReadingAtWork : Type 0 where
  pub laid : IsLaidOut secret.world secret.device.content
  pub differ : DifferIn 1 secret.world secret.device other_blocks
  pub run : RunWhere (LeavesReservation 1) secret (sends read_entry) denied_seen after_secret
  pub fenced_host : MayNotRead secret.world 1 (sends read_entry)
  pub bytes : namespace_bytes secret 1 ≡ replicate 512 1
  pub other_bytes : namespace_bytes (over other_blocks secret) 1 ≡ replicate 512 9
  pub holds : (left : Device)
      × RunWhere (LeavesReservation 1) (over other_blocks secret) (sends read_entry) denied_seen
      (over left after_secret)
      × DifferIn 1 after_secret.world after_secret.device left
  pub same : (other : Subsystem) → (others : List Seen)
      → Run true (over other_blocks secret) (sends read_entry) others other → other.device.failures ≡ 0
      → (others ≡ denied_seen) × (other ≡ over other.device after_secret)

-- FencedReadingIsSame for events of any host.
abbrev pub ReadingOfAnyHost : Type 0
ReadingOfAnyHost =
    (old new other : Subsystem) → (medium : Device) → (events : List Event) → (seen others : List Seen) → (n : ℕ)
    → IsLaidOut old.world old.device.content
    → DifferIn n old.world old.device medium
    → RunWhere (LeavesReservation n) old events seen new
    → Run true (over medium old) events others other
    → new.device.failures ≡ old.device.failures → other.device.failures ≡ old.device.failures
    → old.device.failures < 2 ^ 64 - 1
    → other ≡ over other.device new
