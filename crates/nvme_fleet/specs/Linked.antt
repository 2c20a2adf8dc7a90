-- How contracts see a host's access to its controller: the subsystem, the place of the controller, and the reference to
-- it.
use Rattle.std.specs.Prelude.{◌≡◌, ◌<◌, ◌≤◌, ℕ, ◌+◌, get_or, length, slice_set}
use Rattle.std.specs.Borrow.{GName}
use Rattle.nvme_machine.specs.Controllers.{Controller, new_controller}
use Rattle.nvme_machine.specs.Subsystems.{Subsystem}
use Rattle.nvme_machine.specs.Executing.{Setting, setting}

-- the controller at a place, with the access state and the medium
abbrev pub controller_in : Subsystem → ℕ → Controller
controller_in s i = get_or s.controllers i (new_controller 0)

abbrev pub setting_in : Subsystem → ℕ → Setting
setting_in s i = setting (controller_in s i) s.world s.device

-- a subsystem after these change
abbrev pub with_setting : Subsystem → ℕ → Setting → Subsystem
with_setting s i x = record { world = x.world; device = x.device; controllers = slice_set s.controllers i x.controller }

-- all other controllers are unchanged
abbrev pub KeepsOthers : ℕ → Subsystem → Subsystem → Type 0
KeepsOthers i old new = new ≡ with_setting old i (setting_in new i)

abbrev pub with_controller_at : Subsystem → ℕ → Controller → Subsystem
with_controller_at s i c = record s { controllers = slice_set s.controllers i c }

pub record Linked : Type 0 where
  pub subsystem : Subsystem
  pub place : ℕ
  pub name : GName

-- there is a controller with this identifier
abbrev pub IsThere : Subsystem → ℕ → Type 0
IsThere s k = (1 ≤ k) × (k ≤ length s.controllers)

abbrev pub linked_setting : Linked → Setting
linked_setting p = setting_in p.subsystem p.place

abbrev pub linked_controller : Linked → Controller
linked_controller p = controller_in p.subsystem p.place

-- access state, medium and all other controllers are unchanged, and the same controller is reached in the same way
pub record KeepsSite (old new : Linked) : Type 0 where
  pub cntlid : (linked_controller new).cntlid ≡ (linked_controller old).cntlid
  pub world : new.subsystem.world ≡ old.subsystem.world
  pub device : new.subsystem.device ≡ old.subsystem.device
  pub others : KeepsOthers old.place old.subsystem new.subsystem
  pub place : new.place ≡ old.place
  pub name : new.name ≡ old.name

-- a link reaches a controller of its subsystem, which has the number of its place
abbrev pub Reaches : Linked → Type 0
Reaches p = (p.place < length p.subsystem.controllers) × ((linked_controller p).cntlid ≡ p.place + 1)
