-- The place of each namespace on a medium, and which hosts its reservation lets read and write it (Base Specification:
-- Namespaces, Reservations).
use Rattle.std.specs.Prelude.{
  ◌≡◌,
  ◌≢◌,
  ◌⊎◌,
  ◌≤◌,
  ℕ,
  ◌+◌,
  ◌*◌,
  Bool,
  List,
  [],
  map,
  length,
  Option,
  None,
  Some,
  option_map,
}
use Rattle.nvme_spec.specs.declared.access.Group.TheVariants.{Read as Reading, Write as Writing}
use Rattle.nvme_spec.specs.Blocks.{blocks_from}
use Rattle.nvme_spec.specs.Configuration.{Configuration, Capacity, config_fault}
use Rattle.nvme_spec.specs.Reservation.{Reservation, unreserved}
use Rattle.nvme_spec.specs.World.{World, Namespace, host_of, namespace_of, opening_world}
use Rattle.nvme_spec.specs.IoRules.{permits_group}

-- the blocks of a namespace on the medium
pub record Extent : Type 0 where
  pub first : ℕ
  pub blocks : ℕ

unfoldable pub extent_of : World → ℕ → Option Extent
extent_of w n =
    option_map (λ (space : Namespace). record { first = space.first; blocks = space.blocks }) (namespace_of w n)

abbrev pub bytes_at : List ℕ → Option Extent → List ℕ
bytes_at content None = []
bytes_at content (Some x) = blocks_from content x.first (512 * x.blocks)

-- the bytes of a namespace
abbrev pub bytes_of : World → List ℕ → ℕ → List ℕ
bytes_of w content n = bytes_at content (extent_of w n)

-- neither begins before the other ends
abbrev pub AreApart : Extent → Extent → Type 0
AreApart x y = (x.first + x.blocks ≤ y.first) ⊎ (y.first + y.blocks ≤ x.first)

-- every namespace is on the medium, and no two share a block
pub record IsLaidOut (w : World) (content : List ℕ) : Type 0 where
  pub within : (n : ℕ) → (x : Extent) → extent_of w n ≡ Some x → 512 * (x.first + x.blocks) ≤ length content
  pub apart : (n m : ℕ) → (x y : Extent) → n ≢ m → extent_of w n ≡ Some x → extent_of w m ≡ Some y → AreApart x y

-- a subsystem that opens with an accepted configuration is laid out
abbrev pub OpeningIsLaidOut : Type 0
OpeningIsLaidOut =
    (c : Configuration) → (size : Capacity) → (content : List ℕ) → length content ≡ 512 * size.medium
    → config_fault c size ≡ None → IsLaidOut (opening_world c) content

-- the reservation of a namespace
unfoldable pub reservation_of : World → ℕ → Option Reservation
reservation_of w n = option_map (λ (space : Namespace). space.reservation) (namespace_of w n)

-- the reservation of a namespace permits writing, or reading, to the host of a controller
unfoldable pub may_write : World → ℕ → ℕ → Bool
may_write w cntlid n = permits_group (namespace_of w n) (host_of w cntlid) Writing

unfoldable pub may_read : World → ℕ → ℕ → Bool
may_read w cntlid n = permits_group (namespace_of w n) (host_of w cntlid) Reading

-- a namespace without its reservation
abbrev pub unreserved_one : Namespace → Namespace
unreserved_one n = record n { reservation = unreserved }

-- the same controllers and attachments, and the same namespaces except for their reservations
pub record HasSameLayout (old new : World) : Type 0 where
  pub controllers : new.controllers ≡ old.controllers
  pub attachments : new.attachments ≡ old.attachments
  pub namespaces : map unreserved_one new.namespaces ≡ map unreserved_one old.namespaces
  pub hosts : (cntlid : ℕ) → host_of new cntlid ≡ host_of old cntlid
  pub extents : (n : ℕ) → extent_of new n ≡ extent_of old n
