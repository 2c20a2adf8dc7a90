-- Reads of a host's memory and of the medium by C.
use Rattle.std.specs.Prelude.{
  ◌≡◌,
  ◌+◌,
  ◌/◌,
  ◌%◌,
  ◌==◌,
  ℕ,
  List,
  length,
  slice_range,
  nat_le,
  Bool,
  true,
  false,
  Option,
  Some,
  None,
  Result,
  Ok,
  Err,
}
use Rattle.nvme_spec.specs.declared.medium.MediumFault.{MediumFault}
use Rattle.nvme_spec.specs.Memory.{window_size}
use Rattle.nvme_spec.specs.World.{namespace_of}
use Rattle.nvme_lent.specs.OwnOrLent.{step_of}
use Rattle.nvme_machine.specs.Controllers.{Controller}
use Rattle.nvme_machine.specs.Subsystems.{controller_at}
use Rattle.nvme_subsys.specs.Looking.{Looks, LooksBy, block_in}
use Rattle.nvme_library.specs.Holding.{Inside}

-- the bytes from an address, if all of them are in the window
abbrev pub LoadsIf : Bool → List ℕ → ℕ → List ℕ → ℕ → List ℕ → Type 0
LoadsIf true window address old answer new = (answer ≡ 0) × (new ≡ slice_range window address (address + length old))
LoadsIf false window address old answer new = (answer ≡ 18) × (new ≡ old)

abbrev pub LoadsFrom : Option Controller → ℕ → List ℕ → ℕ → List ℕ → Type 0
LoadsFrom None address old answer new = (answer ≡ 17) × (new ≡ old)
LoadsFrom (Some c) address old answer new =
    LoadsIf (nat_le (address + length old) window_size) c.window address old answer new

-- The buffer has bytes of the memory of a controller's host, or the answer is an error and the buffer is unchanged.
abbrev pub Loads : Option Inside → ℕ → ℕ → List ℕ → ℕ → List ℕ → Type 0
Loads None cntlid address old answer new = (answer ≡ 16) × (new ≡ old)
Loads (Some s) cntlid address old answer new = LoadsFrom (controller_at s.state cntlid) address old answer new

-- the answer for the outcome of a read of blocks
abbrev pub look_number : Option (Result (Unit {0}) MediumFault) → ℕ
look_number (Some (Ok done)) = 0
look_number (Some (Err fault)) = 20
look_number None = 18

-- blocks of a namespace are read, with one call each, and the buffer has what the calls gave
pub record LooksAt (nsid slba count : ℕ) (old : Inside) (buffer left : List ℕ)
    (result : Option (Result (Unit {0}) MediumFault)) (new : Inside) : Type 0 where
  pub looks : Looks true (block_in (namespace_of old.state.world nsid) slba count) old.state left result new.state
  pub calls : LooksBy step_of true old.state.device.content (block_in (namespace_of old.state.world nsid) slba count)
      count buffer left old.medium result new.medium

abbrev pub LooksFrom : Option Inside → ℕ → ℕ → List ℕ → ℕ → List ℕ → Option Inside → Type 0
LooksFrom None nsid slba old answer new held = (answer ≡ 16) × (new ≡ old) × (held ≡ None)
LooksFrom (Some s) nsid slba old answer new None = ⊥
LooksFrom (Some s) nsid slba old answer new (Some s') = (result : Option (Result (Unit {0}) MediumFault))
    × (answer ≡ look_number result) × LooksAt nsid slba (length old / 512) s old new result s'

abbrev pub LooksIf : Bool → Option Inside → ℕ → ℕ → List ℕ → ℕ → List ℕ → Option Inside → Type 0
LooksIf false s nsid slba old answer new s' = (answer ≡ 19) × (new ≡ old) × (s' ≡ s)
LooksIf true s nsid slba old answer new s' = LooksFrom s nsid slba old answer new s'

-- The buffer has blocks of a namespace, or the answer is an error. The buffer's length must be a whole number of
-- blocks.
abbrev pub LooksHeld : Option Inside → ℕ → ℕ → List ℕ → ℕ → List ℕ → Option Inside → Type 0
LooksHeld s nsid slba old answer new s' = LooksIf (length old % 512 == 0) s nsid slba old answer new s'
