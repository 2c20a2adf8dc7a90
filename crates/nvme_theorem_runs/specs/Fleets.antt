-- Statements of `fleets.rt`: example runs of two hosts with drivers that are up, over the namespaces of `Cluster`. Also
-- theorems that lack one premise, and so are false.
use Rattle.std.specs.Prelude.{
  Bool,
  List,
  Option,
  Some,
  [],
  false,
  replicate,
  slice_get,
  true,
  ℕ,
  ◌++◌,
  ◌-◌,
  ◌<◌,
  ◌^◌,
  ◌∷◌,
  ◌≡◌,
}
use Rattle.nvme_spec.specs.declared.outcome.Outcome.{Outcome}
use Rattle.nvme_spec.specs.Blocks.{Device}
use Rattle.nvme_spec.specs.Commands.{writers}
use Rattle.nvme_spec.specs.Execution.{denial_outcome}
use Rattle.nvme_spec.specs.Layout.{bytes_of, may_write}
use Rattle.nvme_spec.specs.Reservation.{Reservation}
use Rattle.nvme_spec.specs.Statuses.{reservation_conflict}
use Rattle.nvme_spec.specs.World.{host_of}
use Rattle.nvme_machine.specs.declared.seen.Executed.TheVariants.{Posted}
use Rattle.nvme_machine.specs.PowerCycles.{Persists}
use Rattle.nvme_machine.specs.Secrecy.{DifferIn}
use Rattle.nvme_machine.specs.Subsystems.{is_host_among}
use Rattle.nvme_driver.specs.declared.request.Request.{Request}
use Rattle.nvme_event.specs.declared.event.FleetEvent.{FleetEvent}
use Rattle.nvme_event.specs.declared.event.FleetEvent.TheVariants.{
  BringUp,
  Execute,
  Fetch,
  Place,
  Poll,
  PowerCycle,
  Reset,
  Ring,
}
use Rattle.nvme_event.specs.Replies.{Reply}
use Rattle.nvme_mailbox.specs.Deliveries.{plain}
use Rattle.nvme_mailbox.specs.Determined.{failures_in}
use Rattle.nvme_mailbox.specs.FaultFree.{fault_free_left, fault_free_replies, fault_free_step}
use Rattle.nvme_mailbox.specs.Fencing.{IsOn, LeavesReservation, ReservesNothing, RunWhere, fenced}
use Rattle.nvme_mailbox.specs.Fleets.{Fleet, Run, Step, WithDriver}
use Rattle.nvme_mailbox.specs.IoCommands.{AreNumbered, IoCommand, IsExecutedBy, command_at, verdict_on}
use Rattle.nvme_mailbox.specs.Mailboxes.{Mailbox, empty_box}
use Rattle.nvme_mailbox.specs.Preempting.{IsHeld, LeavesOutside, Preempts, removed_hosts}
use Rattle.nvme_mailbox.specs.Regular.{IsRegular}
use Rattle.nvme_mailbox.specs.Secrecy.{MayNotRead, over}
use Rattle.nvme_theorem_runs.specs.Cluster.{blocks, held_by_a1, reserved, with_b2}
use Rattle.nvme_theorem_runs.specs.Reading.{other_blocks}
use Rattle.nvme_driver.specs.declared.request.Request.TheVariants as request
use Rattle.nvme_event.specs.declared.seen.FleetSeen.TheVariants as seen
use Rattle.nvme_spec.specs.Statuses as status

abbrev pub up : Mailbox
up = record { up = true; next = 9; admin = empty_box; io = empty_box; fetched = []; aborted = [] }

unfoldable pub duo : Reservation → Fleet
duo r = record {
  site = record { world = reserved r; device = blocks };
  hosts = WithDriver up ∷ WithDriver up ∷ [];
}

-- A request is placed, rung and fetched; and executed and delivered.
abbrev pub asks : ℕ → Request → List FleetEvent
asks k what = Place k what ∷ Ring k ∷ Fetch k 1 ∷ []

abbrev pub carried : ℕ → Request → List FleetEvent
carried k what = Place k what ∷ Ring k ∷ Fetch k 1 ∷ Execute k 0 ∷ Poll k ∷ []

-- Write Zeroes and Read of the block of a namespace.
abbrev pub zeroes_asked : ℕ → Request
zeroes_asked n = request.WriteZeroes n 0 1

abbrev pub read_asked : ℕ → Request
read_asked n = request.Read n 0 1

abbrev pub executed_as : Outcome → Reply
executed_as outcome = plain (seen.Executed (Posted outcome))

abbrev pub denied_as : Outcome
denied_as = denial_outcome 7 status.reservation_conflict

-- The I/O command of host b2h at place 0.
abbrev pub its_command : Fleet → Option IoCommand
its_command f = command_at f 2 0

-- FencingHolds and ExecutedAsThePolicyAllows: both hosts request a write of namespace 1; that of host a1h succeeds, and
-- that of host b2h is denied.
unfoldable pub conflicting : List FleetEvent
conflicting = asks 2 (zeroes_asked 1) ++ carried 1 (zeroes_asked 1)

abbrev pub in_conflict : Fleet
in_conflict = fault_free_left (duo (held_by_a1 1)) conflicting

pub record FleetFencingAtWork : Type 0 where
  pub numbered : AreNumbered (duo (held_by_a1 1))
  pub fenced_host : may_write (duo (held_by_a1 1)).site.world 2 1 ≡ false
  pub run : RunWhere (LeavesReservation 1) true (duo (held_by_a1 1)) conflicting
      (fault_free_replies (duo (held_by_a1 1)) conflicting) in_conflict
  pub written : bytes_of in_conflict.site.world in_conflict.site.device.content 1 ≡ replicate 512 0
  pub command : IoCommand
  pub found : its_command in_conflict ≡ Some command
  pub is : IsOn 1 writers command
  pub denied : (fault_free_step in_conflict (Execute 2 0)).reply ≡ executed_as denied_as
  pub holds : (denied_as ≡ denial_outcome (fenced in_conflict.site.world 2 command).rule
      (fenced in_conflict.site.world 2 command).status)
      × ((fault_free_step in_conflict (Execute 2 0)).fleet.site ≡ in_conflict.site)
  pub policy : IsExecutedBy (verdict_on command) true 2 command in_conflict.site denied_as
      (fault_free_step in_conflict (Execute 2 0)).fleet.site

-- FencingHolds over any run, and for any host; ExecutedAsThePolicyAllows for any command.
abbrev pub FleetFencingOverAnyRun : Type 0
FleetFencingOverAnyRun =
    (tells : Bool) → (old mid new : Fleet) → (events : List FleetEvent) → (replies : List Reply) → (n k i : ℕ)
    → (x : IoCommand) → (outcome : Outcome)
    → AreNumbered old → may_write old.site.world k n ≡ false
    → Run tells old events replies mid
    → command_at mid k i ≡ Some x → IsOn n writers x
    → Step tells mid (Execute k i) (executed_as outcome) new
    → outcome ≡ denial_outcome (fenced mid.site.world k x).rule (fenced mid.site.world k x).status

abbrev pub FleetFencingOfAnyHost : Type 0
FleetFencingOfAnyHost =
    (tells : Bool) → (old mid new : Fleet) → (events : List FleetEvent) → (replies : List Reply) → (n k i : ℕ)
    → (x : IoCommand) → (outcome : Outcome)
    → AreNumbered old
    → RunWhere (LeavesReservation n) tells old events replies mid
    → command_at mid k i ≡ Some x → IsOn n writers x
    → Step tells mid (Execute k i) (executed_as outcome) new
    → outcome ≡ denial_outcome (fenced mid.site.world k x).rule (fenced mid.site.world k x).status

abbrev pub PolicyOfAnyCommand : Type 0
PolicyOfAnyCommand =
    (tells : Bool) → (old new : Fleet) → (k i : ℕ) → (x : IoCommand) → (outcome : Outcome) → AreNumbered old
    → Step tells old (Execute k i) (executed_as outcome) new
    → IsExecutedBy (verdict_on x) tells k x old.site outcome new.site

-- PreemptedStaysOut: host a1h preempts host b2h; both are registrants of a reservation for registrants only. Host b2h
-- requests a write, and is denied.
abbrev pub preempt_asked : Request
preempt_asked = request.Acquire 1 1 3 0x11 0x22

abbrev pub before_preempt : Fleet
before_preempt = fault_free_left (duo (with_b2 3)) (asks 1 preempt_asked)

abbrev pub after_preempt : Fleet
after_preempt = (fault_free_step before_preempt (Execute 1 0)).fleet

unfoldable pub preempted_events : List FleetEvent
preempted_events = Poll 1 ∷ carried 1 (zeroes_asked 1) ++ asks 2 (zeroes_asked 1)

abbrev pub preempted_last : Fleet
preempted_last = fault_free_left after_preempt preempted_events

pub record FleetPreemptingAtWork : Type 0 where
  pub numbered : AreNumbered before_preempt
  pub first : IoCommand
  pub preempts : Preempts true 1 before_preempt 1 0 first after_preempt
  pub removed : is_host_among (removed_hosts before_preempt 1 first) (Some 0xb2) ≡ true
  pub might : may_write before_preempt.site.world 2 1 ≡ true
  pub run : RunWhere (LeavesOutside 1 0xb2) true after_preempt preempted_events
      (fault_free_replies after_preempt preempted_events) preempted_last
  pub held : IsHeld preempted_last.site.world 1
  pub host : host_of preempted_last.site.world 2 ≡ Some 0xb2
  pub command : IoCommand
  pub found : its_command preempted_last ≡ Some command
  pub is : IsOn 1 writers command
  pub denied : (fault_free_step preempted_last (Execute 2 0)).reply ≡ executed_as denied_as
  pub holds : (denied_as ≡ denial_outcome (fenced preempted_last.site.world 2 command).rule
      (fenced preempted_last.site.world 2 command).status)
      × ((fault_free_step preempted_last (Execute 2 0)).fleet.site ≡ preempted_last.site)

-- The theorem over any run, and for a namespace that nobody need hold.
abbrev pub FleetPreemptingOverAnyRun : Type 0
FleetPreemptingOverAnyRun =
    (tells : Bool) → (old mid last new : Fleet) → (n k i host : ℕ) → (x : IoCommand) → AreNumbered old
    → Preempts tells n old k i x mid
    → is_host_among (removed_hosts old k x) (Some host) ≡ true
    → (events : List FleetEvent) → (replies : List Reply)
    → Run tells mid events replies last → IsHeld last.site.world n
    → (j l : ℕ) → (y : IoCommand) → (outcome : Outcome) → host_of last.site.world j ≡ Some host
    → command_at last j l ≡ Some y → IsOn n writers y
    → Step tells last (Execute j l) (executed_as outcome) new
    → outcome ≡ denial_outcome (fenced last.site.world j y).rule (fenced last.site.world j y).status

abbrev pub FleetPreemptingUnheld : Type 0
FleetPreemptingUnheld =
    (tells : Bool) → (old mid last new : Fleet) → (n k i host : ℕ) → (x : IoCommand) → AreNumbered old
    → Preempts tells n old k i x mid
    → is_host_among (removed_hosts old k x) (Some host) ≡ true
    → (events : List FleetEvent) → (replies : List Reply)
    → RunWhere (LeavesOutside n host) tells mid events replies last
    → (j l : ℕ) → (y : IoCommand) → (outcome : Outcome) → host_of last.site.world j ≡ Some host
    → command_at last j l ≡ Some y → IsOn n writers y
    → Step tells last (Execute j l) (executed_as outcome) new
    → outcome ≡ denial_outcome (fenced last.site.world j y).rule (fenced last.site.world j y).status

-- FencedReading: host b2h may not read namespace 1; its Read is answered the same over two media.
unfoldable pub reading : List FleetEvent
reading = carried 2 (read_asked 1) ++ Reset 2 ∷ []

abbrev pub after_reading : Fleet
after_reading = fault_free_left (duo (held_by_a1 2)) reading

pub record FleetReadingAtWork : Type 0 where
  pub regular : IsRegular (duo (held_by_a1 2))
  pub differ : DifferIn 1 (duo (held_by_a1 2)).site.world (duo (held_by_a1 2)).site.device other_blocks
  pub run : RunWhere (LeavesReservation 1) true (duo (held_by_a1 2)) reading
      (fault_free_replies (duo (held_by_a1 2)) reading) after_reading
  pub fenced_host : MayNotRead (duo (held_by_a1 2)).site.world 1 reading
  pub denied : slice_get (fault_free_replies (duo (held_by_a1 2)) reading) 3 ≡ Some (executed_as denied_as)
  pub holds : (left : Device)
      × RunWhere (LeavesReservation 1) true (over other_blocks (duo (held_by_a1 2))) reading
      (fault_free_replies (duo (held_by_a1 2)) reading) (over left after_reading)
      × DifferIn 1 after_reading.site.world after_reading.site.device left

-- FencedReadingIsSame for any host.
abbrev pub FleetReadingOfAnyHost : Type 0
FleetReadingOfAnyHost =
    (old new other : Fleet) → (medium : Device) → (events : List FleetEvent) → (replies others : List Reply) → (n : ℕ)
    → IsRegular old → DifferIn n old.site.world old.site.device medium
    → RunWhere (LeavesReservation n) true old events replies new
    → Run true (over medium old) events others other
    → failures_in new ≡ failures_in old → failures_in other ≡ failures_in old → failures_in old < 2 ^ 64 - 1
    → others ≡ replies

-- FencingOutlastsPower: power is lost, and host b2h comes up and requests a write first.
unfoldable pub power_and_up : List FleetEvent
power_and_up = PowerCycle ∷ BringUp 2 ∷ asks 2 (zeroes_asked 1)

abbrev pub back_up : Reservation → Fleet
back_up r = fault_free_left (duo r) power_and_up

pub record FleetOutlastingAtWork : Type 0 where
  pub persists : Persists (duo (held_by_a1 1)).site.world 1
  pub run : RunWhere (ReservesNothing 1) true (duo (held_by_a1 1)) power_and_up
      (fault_free_replies (duo (held_by_a1 1)) power_and_up) (back_up (held_by_a1 1))
  pub command : IoCommand
  pub found : its_command (back_up (held_by_a1 1)) ≡ Some command
  pub is : IsOn 1 writers command
  pub denied : (fault_free_step (back_up (held_by_a1 1)) (Execute 2 0)).reply ≡ executed_as denied_as
  pub holds : (denied_as ≡ denial_outcome (fenced (back_up (held_by_a1 1)).site.world 2 command).rule
      (fenced (back_up (held_by_a1 1)).site.world 2 command).status)
      × ((fault_free_step (back_up (held_by_a1 1)) (Execute 2 0)).fleet.site ≡ (back_up (held_by_a1 1)).site)

-- The theorem for a reservation that need not persist.
abbrev pub FleetOutlastingOfAnyReservation : Type 0
FleetOutlastingOfAnyReservation =
    (tells : Bool) → (old mid new : Fleet) → (events : List FleetEvent) → (replies : List Reply) → (n k i : ℕ)
    → (x : IoCommand) → (outcome : Outcome)
    → AreNumbered old → may_write old.site.world k n ≡ false
    → RunWhere (ReservesNothing n) tells old events replies mid
    → command_at mid k i ≡ Some x → IsOn n writers x
    → Step tells mid (Execute k i) (executed_as outcome) new
    → outcome ≡ denial_outcome (fenced mid.site.world k x).rule (fenced mid.site.world k x).status
