-- The access state of a subsystem, called world in definitions (Base Specification: NVM Subsystem, Controllers,
-- Namespaces): the controllers with their hosts, the namespaces with their reservations and write protection, and the
-- attachments.
use Rattle.std.specs.Prelude.{
  ℕ,
  ◌+◌,
  ◌*◌,
  ◌≤◌,
  Bool,
  true,
  false,
  ◌&&◌,
  ◌==◌,
  List,
  [],
  ◌∷◌,
  map,
  Option,
  option_map,
  find,
  if◌then◌else◌,
}
use Rattle.std.specs.List.{list_any, AllByRecursion}
use Rattle.nvme_spec.specs.declared.access.Protection.{Protection}
use Rattle.nvme_spec.specs.declared.access.Protection.TheVariants.{Open, Protected, UntilCycle}
use Rattle.nvme_spec.specs.declared.config.ControllerConfig.{ControllerConfig}
use Rattle.nvme_spec.specs.declared.config.NsConfig.{NsConfig}
use Rattle.nvme_spec.specs.Blocks.{blocks_from}
use Rattle.nvme_spec.specs.Configuration.{Configuration}
use Rattle.nvme_spec.specs.Report.{ControllerHost}
use Rattle.nvme_spec.specs.Reservation.{Reservation, unreserved}

-- A namespace: its place on the medium, whether it is shared, its reservation and its write protection.
pub record Namespace : Type 0 where
  pub nsid : ℕ
  pub first : ℕ
  pub blocks : ℕ
  pub shared : Bool
  pub protection : Protection
  pub reservation : Reservation

-- it may not be written, until a power cycle or for good
abbrev pub forbids_writing : Protection → Bool
forbids_writing Open = false
forbids_writing Protected = true
forbids_writing UntilCycle = true

-- the bytes of its blocks
abbrev pub namespace_bytes : List ℕ → Namespace → List ℕ
namespace_bytes content n = blocks_from content n.first (512 * n.blocks)

-- An attachment is a pair of a controller's identifier and a namespace's.
pub record World : Type 0 where
  pub controllers : List ControllerHost
  pub namespaces : List Namespace
  pub attachments : List (ℕ × ℕ)

-- the host that a controller belongs to
unfoldable pub host_of : World → ℕ → Option ℕ
host_of w cntlid = option_map (λ (k : ControllerHost). k.1) (find (λ (k : ControllerHost). k.0 == cntlid) w.controllers)

-- the namespace with this identifier
unfoldable pub namespace_of : World → ℕ → Option Namespace
namespace_of w nsid = find (λ n. n.nsid == nsid) w.namespaces

-- the namespace is attached to the controller
unfoldable pub is_attached : World → ℕ → ℕ → Bool
is_attached w cntlid nsid = list_any (λ (a : ℕ × ℕ). (a.0 == cntlid) && (a.1 == nsid)) w.attachments

-- a controller of a configuration, and its host
abbrev pub controller_host : ControllerConfig → ControllerHost
controller_host k = (k.cntlid, k.host)

-- namespaces are on the medium one after the other, from this block; nobody has registered, nothing is protected
abbrev pub laid_out : ℕ → List NsConfig → List Namespace
laid_out first [] = []
laid_out first (n ∷ rest) =
    record {
      nsid = n.nsid;
      first = first;
      blocks = n.blocks;
      shared = n.shared;
      protection = Open;
      reservation = unreserved;
    }
    ∷ laid_out (first + n.blocks) rest

-- the world of a configuration at its opening
unfoldable pub opening_world : Configuration → World
opening_world c = record {
  controllers = map controller_host c.controllers;
  namespaces = laid_out 0 c.namespaces;
  attachments = c.attached;
}

-- every namespace is within a medium of `size` blocks
abbrev pub LiesWithin : ℕ → List Namespace → Type 0
LiesWithin size namespaces = AllByRecursion (λ n. n.first + n.blocks ≤ size) namespaces

-- the namespaces, after the one with this identifier is changed
abbrev pub with_namespace : (Namespace → Namespace) → ℕ → List Namespace → List Namespace
with_namespace change nsid [] = []
with_namespace change nsid (n ∷ rest) = if n.nsid == nsid then change n ∷ rest else n ∷ with_namespace change nsid rest

-- the world, after the namespace with this identifier gets this reservation
abbrev pub with_reservation : World → ℕ → Reservation → World
with_reservation w nsid r =
    record w { namespaces = with_namespace (λ n. record n { reservation = r }) nsid w.namespaces }

-- the world, after the namespace with this identifier gets this write protection
abbrev pub with_protection : World → ℕ → Protection → World
with_protection w nsid protection =
    record w { namespaces = with_namespace (λ n. record n { protection = protection }) nsid w.namespaces }
