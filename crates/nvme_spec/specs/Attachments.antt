-- Attaching a namespace to controllers, and detaching it, for the command Namespace Attachment (Base Specification:
-- Namespace Attachment command, Controller List, Shared and Private Namespaces). A list is applied whole, or refused by
-- its first fault.
use Rattle.std.specs.Prelude.{
  ℕ,
  ◌==◌,
  nat_lt,
  Bool,
  true,
  false,
  not,
  ◌&&◌,
  ◌||◌,
  List,
  [],
  ◌∷◌,
  ◌++◌,
  length,
  map,
  filter,
  flat_map,
  Option,
  None,
  Some,
  is_some,
  Result,
  Ok,
  Err,
}
use Rattle.std.specs.List.{list_any}
use Rattle.nvme_wire.specs.declared.status.Status.{Status}
use Rattle.nvme_spec.specs.Limits.{longest_controller_list}
use Rattle.nvme_spec.specs.World.{World, Namespace, host_of, namespace_of, is_attached}
use Rattle.nvme_spec.specs.Rules.{Test, test, first_failure}
use Rattle.nvme_spec.specs.Statuses as status

-- each identifier is that of a controller, and above the one before
abbrev pub are_controllers_above : World → ℕ → List ℕ → Bool
are_controllers_above w before [] = true
are_controllers_above w before (cntlid ∷ rest) =
    is_some (host_of w cntlid) && nat_lt before cntlid && are_controllers_above w cntlid rest

-- a list names 1 to 2,047 controllers, by rising identifier
unfoldable pub list_tests : World → List ℕ → List Test
list_tests w controllers =
    test ((length controllers == 0)
    || nat_lt longest_controller_list (length controllers)) status.controller_list_invalid
    ∷ test (not (are_controllers_above w 0 controllers)) status.controller_list_invalid
    ∷ []

abbrev pub is_shared : Option Namespace → Bool
is_shared None = false
is_shared (Some n) = n.shared

-- some controller is attached to the namespace
unfoldable pub has_controller : World → ℕ → Bool
has_controller w nsid = list_any (λ (a : ℕ × ℕ). a.1 == nsid) w.attachments

-- a controller can be attached: it is not attached yet, and if the namespace is private, no other is
unfoldable pub attach_tests : World → ℕ → Bool → ℕ → List Test
attach_tests w nsid has_other cntlid =
    test (is_attached w cntlid nsid) status.namespace_already_attached
    ∷ test (not (is_shared (namespace_of w nsid)) && has_other) status.namespace_is_private
    ∷ []

-- the controllers of a list can be attached one after the other: for those after the first, another one is attached
abbrev pub attach_each : World → ℕ → Bool → List ℕ → List Test
attach_each w nsid has_other [] = []
attach_each w nsid has_other (cntlid ∷ rest) = attach_tests w nsid has_other cntlid ++ attach_each w nsid true rest

-- a controller can be detached: it is attached
unfoldable pub detach_tests : World → ℕ → ℕ → List Test
detach_tests w nsid cntlid = test (not (is_attached w cntlid nsid)) status.namespace_not_attached ∷ []

abbrev pub detach_each : World → ℕ → List ℕ → List Test
detach_each w nsid controllers = flat_map (detach_tests w nsid) controllers

-- A change is refused with a status, or gives the next world.
abbrev pub AttachmentOutcome : Type 0
AttachmentOutcome = Result World Status

-- the next world, unless a test fails
abbrev pub unless_refused : Option Status → World → AttachmentOutcome
unless_refused None next = Ok next
unless_refused (Some why) next = Err why

abbrev pub with_attached : World → ℕ → List ℕ → World
with_attached w nsid controllers =
    record w { attachments = w.attachments ++ map (λ cntlid. (cntlid, nsid)) controllers }

abbrev pub without_attached : World → ℕ → List ℕ → World
without_attached w nsid controllers =
    record w {
      attachments = filter (λ (a : ℕ
          × ℕ). not ((a.1 == nsid) && list_any (λ cntlid. cntlid == a.0) controllers)) w.attachments;
    }

-- the namespace is attached to these controllers
unfoldable pub attach : World → ℕ → List ℕ → AttachmentOutcome
attach w nsid controllers =
    unless_refused (first_failure (list_tests w controllers ++ attach_each w nsid (has_controller w nsid) controllers))
    (with_attached w nsid controllers)

-- it is detached from them
unfoldable pub detach : World → ℕ → List ℕ → AttachmentOutcome
detach w nsid controllers =
    unless_refused (first_failure (list_tests w controllers
    ++ detach_each w nsid controllers)) (without_attached w nsid controllers)
