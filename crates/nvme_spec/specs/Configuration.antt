-- A configuration, with the controllers and namespaces of a subsystem, and why it is refused. The limits are this
-- subsystem's; the kinds of identifiers are those of the Base Specification (Controller, Namespace, Host Identifier;
-- shared and private namespaces).
use Rattle.std.specs.Prelude.{
  ℕ,
  ◌+◌,
  Bool,
  false,
  not,
  ◌&&◌,
  ◌||◌,
  ◌==◌,
  nat_lt,
  if◌then◌else◌,
  List,
  [],
  ◌∷◌,
  length,
  sum_by,
  Option,
  None,
  Some,
}
use Rattle.std.specs.List.{list_any, list_all, enumerate_from}
use Rattle.nvme_spec.specs.Limits.{most_controllers, highest_nsid, most_attachments, largest_namespace}
use Rattle.nvme_spec.specs.declared.config.ControllerConfig.{ControllerConfig}
use Rattle.nvme_spec.specs.declared.config.NsConfig.{NsConfig}
use Rattle.nvme_spec.specs.declared.config.ConfigFault.{ConfigFault}
use Rattle.nvme_spec.specs.declared.config.ConfigFault.TheVariants.{BadId, BadSize, TooMany, DoesNotFit}

pub record Configuration : Type 0 where
  pub controllers : List ControllerConfig
  pub namespaces : List NsConfig
  pub attached : List (ℕ × ℕ)

abbrev pub empty_configuration : Configuration
empty_configuration = record { controllers = []; namespaces = []; attached = [] }

-- more controllers, namespaces or attachments than the limits allow
abbrev pub has_too_many : Configuration → Bool
has_too_many c =
    nat_lt most_controllers (length c.controllers) || nat_lt highest_nsid (length c.namespaces)
    || nat_lt most_attachments (length c.attached)

-- the k-th controller's identifier is k, from 1
abbrev pub are_numbered : List ControllerConfig → Bool
are_numbered controllers = list_all (λ p. p.1.cntlid == p.0 + 1) (enumerate_from 0 controllers)

-- some controller has no host
abbrev pub is_hostless : List ControllerConfig → Bool
is_hostless controllers = list_any (λ k. k.host == 0) controllers

-- some namespace identifier is not one of 1 to 8
abbrev pub has_foreign_nsid : List NsConfig → Bool
has_foreign_nsid namespaces = list_any (λ n. (n.nsid == 0) || nat_lt highest_nsid n.nsid) namespaces

-- some namespace identifier is repeated
abbrev pub has_repeated_nsid : List NsConfig → Bool
has_repeated_nsid [] = false
has_repeated_nsid (n ∷ rest) = list_any (λ m. m.nsid == n.nsid) rest || has_repeated_nsid rest

-- an attachment names a controller and a namespace of the configuration
abbrev pub is_known : Configuration → ℕ × ℕ → Bool
is_known c pair = list_any (λ k. k.cntlid == pair.0) c.controllers && list_any (λ n. n.nsid == pair.1) c.namespaces

-- the namespace with this identifier is private
abbrev pub is_private : Configuration → ℕ → Bool
is_private c nsid = list_any (λ n. (n.nsid == nsid) && not n.shared) c.namespaces

-- two attachments exclude each other: they are the same, or attach one private namespace
abbrev pub clash : Configuration → ℕ × ℕ → ℕ × ℕ → Bool
clash c a b = (b.1 == a.1) && ((b.0 == a.0) || is_private c a.1)

-- some attachment is unknown, or clashes with a later one
abbrev pub has_bad_attachment : Configuration → List (ℕ × ℕ) → Bool
has_bad_attachment c [] = false
has_bad_attachment c (pair ∷ rest) = not (is_known c pair) || list_any (clash c pair) rest || has_bad_attachment c rest

abbrev pub has_bad_id : Configuration → Bool
has_bad_id c =
    not (are_numbered c.controllers)
    || is_hostless c.controllers
    || has_foreign_nsid c.namespaces
    || has_repeated_nsid c.namespaces
    || has_bad_attachment c c.attached

-- How large the namespaces of a configuration may be: the most blocks of one, and the blocks of the medium, which has
-- to hold all of them together.
pub record Capacity : Type 0 where
  pub namespace : ℕ
  pub medium : ℕ

abbrev pub capacity : ℕ → ℕ → Capacity
capacity namespace medium = record { namespace = namespace; medium = medium }

-- some namespace has no blocks, or more than the limit
abbrev pub has_bad_size : Capacity → List NsConfig → Bool
has_bad_size size namespaces = list_any (λ n. (n.blocks == 0) || nat_lt size.namespace n.blocks) namespaces

-- the blocks of all namespaces together
abbrev pub total_blocks : List NsConfig → ℕ
total_blocks namespaces = sum_by (λ n. n.blocks) namespaces

-- why a configuration is refused, if it is
unfoldable pub config_fault : Configuration → Capacity → Option ConfigFault
config_fault c size =
    if has_too_many c then Some TooMany
    else (if has_bad_id c then Some BadId
    else (if has_bad_size size c.namespaces then Some BadSize
    else (if nat_lt size.medium (total_blocks c.namespaces) then Some DoesNotFit
    else None)))

-- over a medium of this many blocks, if a namespace has at most 65,536 blocks, as in a script
abbrev pub script_capacity : ℕ → Capacity
script_capacity medium_blocks = capacity largest_namespace medium_blocks

abbrev pub first_config_fault : Configuration → ℕ → Option ConfigFault
first_config_fault c medium_blocks = config_fault c (script_capacity medium_blocks)
