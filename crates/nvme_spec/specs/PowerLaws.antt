-- Statements of `laws/power.rt`: what a power cycle leaves of the access state, and what write protection until a power
-- cycle forbids before it (Base Specification: Persist Through Power Loss of Reservations, Namespace Write Protection).
use Rattle.std.specs.Prelude.{◌≡◌, ℕ, Bool, true, false, List, Option, Some, option_map}
use Rattle.nvme_spec.specs.declared.access.Protection.{Protection}
use Rattle.nvme_spec.specs.declared.access.Protection.TheVariants.{UntilCycle}
use Rattle.nvme_spec.specs.declared.outcome.Outcome.{Outcome}
use Rattle.nvme_spec.specs.declared.queues.Queues.{Queues}
use Rattle.nvme_spec.specs.Reservation.{Reservation, unreserved}
use Rattle.nvme_spec.specs.World.{World, Namespace, forbids_writing, host_of, namespace_of}
use Rattle.nvme_spec.specs.Layout.{IsLaidOut, bytes_of, extent_of, reservation_of, may_read, may_write}
use Rattle.nvme_spec.specs.Sound.{IsSound}
use Rattle.nvme_spec.specs.Execution.{Scene, Executes}
use Rattle.nvme_spec.specs.AdminEffects.{admin_execution}
use Rattle.nvme_spec.specs.Power.{cycled_protection, cycled_world}

-- the write protection of a namespace
unfoldable pub protection_at : World → ℕ → Option Protection
protection_at w n = option_map (λ (space : Namespace). space.protection) (namespace_of w n)

-- controllers, attachments, and the places of namespaces are unchanged
pub record KeepsPlaces (old new : World) : Type 0 where
  pub controllers : new.controllers ≡ old.controllers
  pub attachments : new.attachments ≡ old.attachments
  pub hosts : (cntlid : ℕ) → host_of new cntlid ≡ host_of old cntlid
  pub extents : (n : ℕ) → extent_of new n ≡ extent_of old n

abbrev pub CycleKeepsPlaces : Type 0
CycleKeepsPlaces = (w : World) → KeepsPlaces w (cycled_world w)

-- a reservation that persists through power loss is unchanged, and hosts keep the permissions that they had
abbrev pub CycleKeepsPersistent : Type 0
CycleKeepsPersistent =
    (w : World) → (n : ℕ) → (r : Reservation) → reservation_of w n ≡ Some r → r.ptpl ≡ true
    → reservation_of (cycled_world w) n ≡ Some r

abbrev pub CycleKeepsRights : Type 0
CycleKeepsRights =
    (w : World) → (n : ℕ) → (r : Reservation) → reservation_of w n ≡ Some r → r.ptpl ≡ true → (cntlid : ℕ)
    → (may_write (cycled_world w) cntlid n ≡ may_write w cntlid n)
    × (may_read (cycled_world w) cntlid n ≡ may_read w cntlid n)

-- any other reservation is gone
abbrev pub CycleForgetsOthers : Type 0
CycleForgetsOthers =
    (w : World) → (n : ℕ) → (r : Reservation) → reservation_of w n ≡ Some r → r.ptpl ≡ false
    → reservation_of (cycled_world w) n ≡ Some unreserved

-- protection stays, except for one until the power cycle
abbrev pub CycleEndsProtection : Type 0
CycleEndsProtection =
    (w : World) → (n : ℕ) → protection_at (cycled_world w) n ≡ option_map cycled_protection (protection_at w n)

abbrev pub CycleKeepsItSound : Type 0
CycleKeepsItSound = (w : World) → IsSound w → IsSound (cycled_world w)

-- a second power cycle changes nothing more
abbrev pub CyclesAreOne : Type 0
CyclesAreOne = (w : World) → cycled_world (cycled_world w) ≡ cycled_world w

-- No I/O command changes a byte of a namespace that is write protected.
abbrev pub ProtectedCommandsWriteNothing : Type 0
ProtectedCommandsWriteNothing =
    (cntlid : ℕ) → (e : List ℕ) → (marked : Bool) → (old new : Scene) → (outcome : Outcome) → (n : ℕ)
    → (p : Protection) → IsLaidOut old.world old.device.content → Executes true cntlid e marked old new outcome
    → protection_at old.world n ≡ Some p → forbids_writing p ≡ true
    → bytes_of new.world new.device.content n ≡ bytes_of old.world old.device.content n

-- No I/O command changes the protection of a namespace, and no admin command one until a power cycle.
abbrev pub CommandsKeepProtection : Type 0
CommandsKeepProtection =
    (tells : Bool) → (cntlid : ℕ) → (e : List ℕ) → (marked : Bool) → (old new : Scene) → (outcome : Outcome) → (n : ℕ)
    → Executes tells cntlid e marked old new outcome → protection_at new.world n ≡ protection_at old.world n

abbrev pub ProtectionOutlastsCommands : Type 0
ProtectionOutlastsCommands =
    (w : World) → (queues : Queues) → (cntlid : ℕ) → (e window : List ℕ) → (n : ℕ)
    → protection_at w n ≡ Some UntilCycle
    → protection_at (admin_execution w queues cntlid e window).world n ≡ Some UntilCycle
