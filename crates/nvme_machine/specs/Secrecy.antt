-- Statements of the law `fenced_hosts_read_nothing`: hosts that may not read a namespace learn nothing of its bytes
-- over runs.
use Rattle.std.specs.Prelude.{◌≡◌, ◌≢◌, ◌<◌, ◌-◌, ◌^◌, ℕ, true, false, List, length}
use Rattle.std.specs.List.{AllByRecursion}
use Rattle.nvme_spec.specs.Blocks.{Device}
use Rattle.nvme_spec.specs.World.{World}
use Rattle.nvme_spec.specs.Layout.{IsLaidOut, bytes_of, may_read}
use Rattle.nvme_machine.specs.declared.event.Event.{Event}
use Rattle.nvme_machine.specs.declared.seen.Seen.{Seen}
use Rattle.nvme_machine.specs.Subsystems.{Subsystem, Run, OfItsController}
use Rattle.nvme_machine.specs.Fencing.{RunWhere, LeavesReservation}

-- a subsystem over another medium
abbrev pub over : Device → Subsystem → Subsystem
over d s = record s { device = d }

-- two media have the same length and failure count, and differ only in the bytes of this namespace
pub record DifferIn (n : ℕ) (w : World) (d e : Device) : Type 0 where
  pub failures : e.failures ≡ d.failures
  pub size : length e.content ≡ length d.content
  pub others : (m : ℕ) → m ≢ n → bytes_of w e.content m ≡ bytes_of w d.content m

-- the controllers of all these events, power cycles aside, belong to hosts that may not read the namespace
abbrev pub MayNotRead : World → ℕ → List Event → Type 0
MayNotRead w n events = AllByRecursion (OfItsController (λ k. may_read w k n ≡ false)) events

-- Fenced reading. Suppose that every reservation command on a namespace is denied, and power is not lost or the
-- reservation persists. Then hosts that may not read it get results, and find memory, that are possible with any other
-- bytes of the namespace too.
abbrev pub FencedReading : Type 0
FencedReading =
    (old new : Subsystem) → (medium : Device) → (events : List Event) → (seen : List Seen) → (n : ℕ)
    → IsLaidOut old.world old.device.content
    → DifferIn n old.world old.device medium
    → RunWhere (LeavesReservation n) old events seen new → MayNotRead old.world n events
    → (left : Device) × RunWhere (LeavesReservation n) (over medium old) events seen (over left new)
    × DifferIn n new.world new.device left

-- And without a fault of the medium they are the same: all results, windows and controllers are equal.
abbrev pub FencedReadingIsSame : Type 0
FencedReadingIsSame =
    (old new other : Subsystem) → (medium : Device) → (events : List Event) → (seen others : List Seen) → (n : ℕ)
    → IsLaidOut old.world old.device.content
    → DifferIn n old.world old.device medium
    → RunWhere (LeavesReservation n) old events seen new → MayNotRead old.world n events
    → Run true (over medium old) events others other
    → new.device.failures ≡ old.device.failures → other.device.failures ≡ old.device.failures
    → old.device.failures < 2 ^ 64 - 1
    → (others ≡ seen) × (other ≡ over other.device new) × DifferIn n new.world new.device other.device
