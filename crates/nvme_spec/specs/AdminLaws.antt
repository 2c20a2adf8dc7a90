-- What no admin command changes: statements of `laws/admin.rt` (Base Specification: Admin Command Set, Namespace
-- Attachment command, Reservations, Namespace Write Protection). No admin command has a medium, so none changes a
-- block.
use Rattle.std.specs.Prelude.{◌≡◌, ◌⊎◌, ℕ, List, map, Some, Ok, Err, option_map}
use Rattle.nvme_wire.specs.Submission.{opcode}
use Rattle.nvme_spec.specs.declared.access.Protection.TheVariants.{Open}
use Rattle.nvme_spec.specs.declared.command.AdminCommand.TheVariants.{NamespaceAttachment}
use Rattle.nvme_spec.specs.declared.queues.Queues.{Queues}
use Rattle.nvme_spec.specs.declared.queues.QueueChange.TheVariants.{Keep}
use Rattle.nvme_spec.specs.declared.verdict.Denial.{Denial}
use Rattle.nvme_spec.specs.World.{World, Namespace, namespace_of}
use Rattle.nvme_spec.specs.AdminCommands.{command_of}
use Rattle.nvme_spec.specs.AdminRules.{admin_judgement}
use Rattle.nvme_spec.specs.AdminEffects.{AdminExecution, admin_execution}

-- a namespace without its write protection
abbrev pub besides_protection : Namespace → Namespace
besides_protection n = record n { protection = Open }

-- the controllers are the same, and so are the namespaces without their write protection
pub record KeepsAllBut (w next : World) : Type 0 where
  pub controllers : next.controllers ≡ w.controllers
  pub namespaces : map besides_protection next.namespaces ≡ map besides_protection w.namespaces

abbrev pub ChangesOnlyProtection : Type 0
ChangesOnlyProtection =
    (w : World) → (queues : Queues) → (cntlid : ℕ) → (e window : List ℕ)
    → KeepsAllBut w (admin_execution w queues cntlid e window).world

-- so no reservation changes
abbrev pub KeepsReservations : Type 0
KeepsReservations =
    (w : World) → (queues : Queues) → (cntlid : ℕ) → (e window : List ℕ) → (nsid : ℕ)
    → option_map (λ (n : Namespace). n.reservation) (namespace_of (admin_execution w queues cntlid e window).world nsid)
    ≡ option_map (λ (n : Namespace). n.reservation) (namespace_of w nsid)

-- only an allowed Namespace Attachment changes attachments
abbrev pub AttachesByCommand : Type 0
AttachesByCommand =
    (w : World) → (queues : Queues) → (cntlid : ℕ) → (e window : List ℕ)
    → ((admin_execution w queues cntlid e window).world.attachments ≡ w.attachments)
    ⊎ ((command_of (opcode e) ≡ Some NamespaceAttachment) × (admin_judgement w queues cntlid e window ≡ Ok tt))

-- a denied command changes nothing
pub record ChangesNothing (w : World) (window : List ℕ) (x : AdminExecution) : Type 0 where
  pub world : x.world ≡ w
  pub memory : x.window ≡ window
  pub change : x.change ≡ Keep

abbrev pub DenialsChangeNothing : Type 0
DenialsChangeNothing =
    (w : World) → (queues : Queues) → (cntlid : ℕ) → (e window : List ℕ) → (d : Denial)
    → admin_judgement w queues cntlid e window ≡ Err d
    → ChangesNothing w window (admin_execution w queues cntlid e window)
