-- Reads of a namespace's blocks from the medium, for the contract of `read_blocks`.
use Rattle.std.specs.Prelude.{◌≡◌, ℕ, ◌+◌, nat_le, Bool, if◌then◌else◌, List, length, Option, None, Some, Result, OnOk}
use Rattle.nvme_spec.specs.Blocks.{Told, blocks_from, CountsFaults}
use Rattle.nvme_spec.specs.MediumCalls.{MediumCall}
use Rattle.nvme_spec.specs.World.{Namespace, namespace_of}
use Rattle.nvme_spec.specs.declared.medium.MediumFault.{MediumFault}
use Rattle.nvme_medium.specs.Reading.{ReadsBlocks}
use Rattle.nvme_machine.specs.Subsystems.{Subsystem}

-- the first of `count` blocks of a namespace from `slba`, counted on the medium, if the namespace has all of them
abbrev pub block_in : Option Namespace → ℕ → ℕ → Option ℕ
block_in None slba count = None
block_in (Some n) slba count = if nat_le (slba + count) n.blocks then Some (n.first + slba) else None

-- Blocks of the medium were read, from `first`, or a read failed, which is counted; nothing else changed.
pub record Reads (tells : Bool) (first : ℕ) (old : Subsystem) (bytes : List ℕ) (result : Result (Unit {0}) MediumFault)
    (new : Subsystem) : Type 0 where
  pub read : OnOk result (Told tells (bytes ≡ blocks_from old.device.content first (length bytes)))
  pub content : Told tells (new.device.content ≡ old.device.content)
  pub count : CountsFaults old.device.failures new.device.failures result
  pub world : new.world ≡ old.world
  pub controllers : new.controllers ≡ old.controllers

-- The outcome of a read of a namespace's blocks; if the namespace lacks one of them, nothing is read.
abbrev pub Looks : Bool → Option ℕ → Subsystem → List ℕ → Option (Result (Unit {0}) MediumFault) → Subsystem → Type 0
Looks tells None old bytes result new = (result ≡ None) × (new ≡ old)
Looks tells (Some first) old bytes None new = ⊥
Looks tells (Some first) old bytes (Some result) new = Reads tells first old bytes result new

-- The effect on medium and buffer: one read call for each block, up to the first that failed, and the buffer has the
-- blocks that the calls returned. If the namespace lacks one of the blocks, there are no calls, and the buffer is
-- unchanged.
abbrev pub LooksBy : {M : Type 0} → (M → MediumCall → M → Type 0) → Bool → List ℕ → Option ℕ → ℕ → List ℕ → List ℕ → M
    → Option (Result (Unit {0}) MediumFault) → M → Type 0
LooksBy step tells content None count buffer left old result new = (result ≡ None) × (left ≡ buffer) × (new ≡ old)
LooksBy step tells content (Some first) count buffer left old None new = ⊥
LooksBy step tells content (Some first) count buffer left old (Some answer) new =
    ReadsBlocks step tells content first count buffer left old answer new
