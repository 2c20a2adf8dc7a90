-- For laws about runs: an admin command leaves the world's hosts, and the places and reservations of its namespaces.
use Rattle.std.proofs.Common.{
  ◌≡◌,
  ◌==◌,
  ℕ,
  true,
  false,
  List,
  [],
  ◌∷◌,
  Option,
  None,
  Some,
  Ok,
  Err,
  refl,
  sym,
  ap,
  subst,
}
use Rattle.std.specs.Prelude.{if◌then◌else◌}
use Rattle.std.specs.List.{AllByRecursion}
use Rattle.nvme_wire.specs.Submission.{opcode, nsid}
use Rattle.nvme_spec.specs.declared.access.Protection.{Protection}
use Rattle.nvme_spec.specs.declared.command.AdminCommand.{AdminCommand}
use Rattle.nvme_spec.specs.declared.command.AdminCommand.TheVariants.{SetFeatures, NamespaceAttachment}
use Rattle.nvme_spec.specs.declared.queues.Queues.{Queues}
use Rattle.nvme_spec.specs.Rules.{Judgement}
use Rattle.nvme_spec.specs.World.{World, Namespace, host_of, namespace_of, with_namespace, with_protection}
use Rattle.nvme_spec.specs.Layout.{Extent, extent_of, reservation_of}
use Rattle.nvme_spec.specs.Attachments.{unless_refused, attach, detach}
use Rattle.nvme_spec.specs.AdminCommands.{command_of, fid, write_protection, wps, protection_of, sel}
use Rattle.nvme_spec.specs.AdminRules.{data_of, listed_controllers, admin_judgement}
use Rattle.nvme_spec.specs.AdminEffects.{world_of, world_after, execution_by, admin_execution}
use Rattle.nvme_spec.proofs.Namespaces.{found-still}
use Rattle.nvme_wire.specs.declared.status.Status.{Status}

-- the same hosts, and the namespaces at the same places
pub record HasSameExtents (old new : World) : Type 0 where
  pub hosts : (k : ℕ) → host_of new k ≡ host_of old k
  pub extents : (n : ℕ) → extent_of new n ≡ extent_of old n

-- and their reservations
pub record HasSameReservations (old new : World) : Type 0 where
  pub extents : HasSameExtents old new
  pub reservations : (n : ℕ) → reservation_of new n ≡ reservation_of old n

pub same-extents : (old new : World) → new ≡ old → HasSameExtents old new
same-extents old new e = record { hosts = λ k. ap (λ w. host_of w k) e; extents = λ n. ap (λ w. extent_of w n) e }

pub same-reservations : (old new : World) → new ≡ old → HasSameReservations old new
same-reservations old new e =
    record { extents = same-extents old new e; reservations = λ n. ap (λ w. reservation_of w n) e }

abbrev extent : Namespace → Extent
extent space = record { first = space.first; blocks = space.blocks }

protected : (w : World) (a : ℕ) (p : Protection) → HasSameReservations w (with_protection w a p)
unfolding host_of extent_of namespace_of reservation_of
protected w a p = record {
  extents = record {
    hosts = λ k. refl;
    extents = λ n. found-still extent (λ m. record m { protection = p }) (λ m. refl) (λ m. refl) a n w.namespaces;
  };
  reservations =
      λ n. found-still (λ m. m.reservation) (λ m. record m { protection = p }) (λ m. refl) (λ m. refl) a n w.namespaces;
}

attached : (w : World) (list : List (ℕ × ℕ)) → HasSameReservations w (record w { attachments = list })
unfolding host_of extent_of namespace_of reservation_of
attached w list = record { extents = record { hosts = λ k. refl; extents = λ n. refl }; reservations = λ n. refl }

-- The worlds that an admin command may leave.
pub data Becomes (old : World) : World → Type 0 where
  Same : (new : World) → new ≡ old → Becomes old new
  Attached : (new : World) → (list : List (ℕ × ℕ)) → new ≡ record old { attachments = list } → Becomes old new
  Protected : (new : World) → (n : ℕ) → (p : Protection) → new ≡ with_protection old n p → Becomes old new

unless-becomes : (w : World) (x : Option Status) (list : List (ℕ × ℕ))
    → Becomes w (world_of w (unless_refused x (record w { attachments = list })))
unless-becomes w None list = Attached _ list refl
unless-becomes w (Some why) list = Same _ refl

pub command-becomes : (w : World) (e sent : List ℕ) (command : AdminCommand) → Becomes w (world_after w command e sent)
unfolding world_after attach detach
command-becomes w e sent NamespaceAttachment =
    elim (sel e == 0) as (λ b. Becomes w (world_of w
    (if b then attach w (nsid e) (listed_controllers sent) else detach w (nsid e) (listed_controllers sent)))) [
      | true ↦ unless-becomes w _ _
      | false ↦ unless-becomes w _ _
    ]
command-becomes w e sent SetFeatures =
    elim (fid e == write_protection) as (λ b.
    Becomes w (if b then with_protection w (nsid e) (protection_of (wps e)) else w)) [
      | true ↦ Protected _ (nsid e) (protection_of (wps e)) refl
      | false ↦ Same _ refl
    ]
command-becomes w e sent command = Same _ refl

executed : (w : World) (k : ℕ) (window e : List ℕ) (j : Judgement) (command : Option AdminCommand)
    → Becomes w (execution_by j command w k e window).world
executed w k window e (Err d) command = Same _ refl
executed w k window e (Ok u) None = Same _ refl
executed w k window e (Ok u) (Some command) = command-becomes w e (data_of window e) command

pub admin-becomes : (w : World) (queues : Queues) (k : ℕ) (window e : List ℕ)
    → Becomes w (admin_execution w queues k e window).world
unfolding admin_execution
admin-becomes w queues k window e = executed w k window e (admin_judgement w queues k e window) (command_of (opcode e))

pub still : (old new : World) → Becomes old new → HasSameReservations old new
still old new (Same n is) = same-reservations old new is
still old new (Attached n list is) = subst (HasSameReservations old) (sym is) (attached old list)
still old new (Protected n a p is) = subst (HasSameReservations old) (sym is) (protected old a p)

-- an admin command leaves hosts, places and reservations
pub admin-keeps : (w : World) (queues : Queues) (k : ℕ) (window e : List ℕ)
    → HasSameReservations w (admin_execution w queues k e window).world
admin-keeps w queues k window e = still w _ (admin-becomes w queues k window e)

-- A property of each namespace that does not depend on its protection still holds.

changed-all : (P : Namespace → Type 0) → ((n : Namespace) (p : Protection) → P n → P (record n { protection = p }))
    → (p : Protection) (a : ℕ) (ns : List Namespace)
    → AllByRecursion P ns → AllByRecursion P (with_namespace (λ n. record n { protection = p }) a ns)
changed-all P f p a [] h = tt
changed-all P f p a (n ∷ ns) h =
    elim (n.nsid == a) as (λ c. AllByRecursion P
    (if c then record n { protection = p } ∷ ns else n ∷ with_namespace (λ n. record n { protection = p }) a ns)) [
      | true ↦ (f n p h.0, h.1)
      | false ↦ (h.0, changed-all P f p a ns h.1)
    ]

pub all-still : (P : Namespace → Type 0) → ((n : Namespace) (p : Protection) → P n → P (record n { protection = p }))
    → (old new : World) → Becomes old new
    → AllByRecursion P old.namespaces → AllByRecursion P new.namespaces
all-still P f old new (Same n is) h = subst (λ w. AllByRecursion P w.namespaces) (sym is) h
all-still P f old new (Attached n list is) h = subst (λ w. AllByRecursion P w.namespaces) (sym is) h
all-still P f old new (Protected n a p is) h =
    subst (λ w. AllByRecursion P w.namespaces) (sym is) (changed-all P f p a old.namespaces h)

pub same-controllers : (old new : World) → Becomes old new → new.controllers ≡ old.controllers
same-controllers old new (Same n is) = ap (λ w. w.controllers) is
same-controllers old new (Attached n list is) = ap (λ w. w.controllers) is
same-controllers old new (Protected n a p is) = ap (λ w. w.controllers) is
