-- Statements of `fencing.rt`: an example run of fencing. Also the theorem without one of its premises: it is false.
use Rattle.std.specs.Prelude.{◌≡◌, ℕ, true, false, List, [], ◌∷◌, replicate}
use Rattle.std.specs.List.{AllByRecursion}
use Rattle.nvme_spec.specs.Execution.{denial_outcome}
use Rattle.nvme_spec.specs.Layout.{IsLaidOut, may_write}
use Rattle.nvme_spec.specs.Statuses as status
use Rattle.nvme_machine.specs.declared.event.Event.{Event}
use Rattle.nvme_machine.specs.declared.event.Event.TheVariants.{Write32, Read32, Fetch, Execute, PowerCycle}
use Rattle.nvme_machine.specs.declared.seen.Executed.TheVariants.{Posted}
use Rattle.nvme_machine.specs.declared.seen.Fetched.TheVariants.{Took}
use Rattle.nvme_machine.specs.declared.seen.Seen.{Seen}
use Rattle.nvme_machine.specs.declared.seen.Seen.TheVariants.{Stored, Wrote, Value, Fetched, Executed, Cycled}
use Rattle.nvme_machine.specs.FaultFree.{fault_free_left}
use Rattle.nvme_machine.specs.Fencing.{LeavesReservation, RunWhere, namespace_bytes}
use Rattle.nvme_machine.specs.Subsystems.{Subsystem, OfItsController, Run}
use Rattle.nvme_theorem_runs.specs.Cluster.{cluster, held_by_a1, stores, zeroes_entry, done}

-- Host b2h stores a write of each namespace, rings, and reads its status; both are fetched and executed, and power is
-- lost.
unfoldable pub fenced_events : List Event
fenced_events =
    stores 2 512 (zeroes_entry 1) ∷ stores 2 576 (zeroes_entry 2) ∷ Write32 2 0x1008 2 ∷ Read32 2 0x1c
    ∷ Fetch 2 1 ∷ Fetch 2 1 ∷ Execute 2 0 ∷ Execute 2 0 ∷ PowerCycle ∷ []

unfoldable pub fenced_seen : List Seen
fenced_seen =
    Stored ∷ Stored ∷ Wrote ∷ Value 1 ∷ Fetched Took ∷ Fetched Took
    ∷ Executed (Posted (denial_outcome 7 status.reservation_conflict)) ∷ Executed (Posted done) ∷ Cycled ∷ []

abbrev pub fenced : Subsystem
fenced = cluster (held_by_a1 1) [] []

abbrev pub after_fenced : Subsystem
after_fenced = fault_free_left fenced fenced_events

-- Its premises hold, the write on namespace 1 is denied, and the one on namespace 2 succeeds.
pub record FencingAtWork : Type 0 where
  pub laid : IsLaidOut fenced.world fenced.device.content
  pub run : RunWhere (LeavesReservation 1) fenced fenced_events fenced_seen after_fenced
  pub fenced_host : AllByRecursion (OfItsController (λ k. may_write fenced.world k 1 ≡ false)) fenced_events
  pub before : namespace_bytes fenced 1 ≡ replicate 512 1
  pub kept : namespace_bytes after_fenced 1 ≡ replicate 512 1
  pub others_before : namespace_bytes fenced 2 ≡ replicate 512 2
  pub others : namespace_bytes after_fenced 2 ≡ replicate 512 0
  pub holds : (namespace_bytes after_fenced 1 ≡ namespace_bytes fenced 1)
      × ((k : ℕ) → may_write after_fenced.world k 1 ≡ may_write fenced.world k 1)

-- The theorem for any run.
abbrev pub FencingOverAnyRun : Type 0
FencingOverAnyRun =
    (old new : Subsystem) → (events : List Event) → (seen : List Seen) → (n : ℕ)
    → IsLaidOut old.world old.device.content
    → Run true old events seen new
    → AllByRecursion (OfItsController (λ k. may_write old.world k n ≡ false)) events
    → namespace_bytes new n ≡ namespace_bytes old n

-- The theorem for events of any host, and for any layout.
abbrev pub FencingOfAnyHost : Type 0
FencingOfAnyHost =
    (old new : Subsystem) → (events : List Event) → (seen : List Seen) → (n : ℕ)
    → IsLaidOut old.world old.device.content
    → RunWhere (LeavesReservation n) old events seen new
    → namespace_bytes new n ≡ namespace_bytes old n

abbrev pub FencingOnAnyLayout : Type 0
FencingOnAnyLayout =
    (old new : Subsystem) → (events : List Event) → (seen : List Seen) → (n : ℕ)
    → RunWhere (LeavesReservation n) old events seen new
    → AllByRecursion (OfItsController (λ k. may_write old.world k n ≡ false)) events
    → namespace_bytes new n ≡ namespace_bytes old n
